-- What holds for the group of a presentation.
use Rattle.group_table.specs.Tables.{IsTable}
use Rattle.pc_group.specs.GroupOf.{IsGroupOf}
use Rattle.power_commutator.specs.Presentations.{Presentation}
use Rattle.p_groups.specs.PGroups.{PGroup}

-- G is the multiplication table of the group of P
pub record IsTableOf (P : Presentation) (G : PGroup) : Type 0 where
  pub table : IsTable G.table
  pub group : IsGroupOf P G.table

-- it holds for the multiplication table of the group of P
pub record ForGroupOf (P : Presentation) (Holds : PGroup → Type 0) : Type 0 where
  pub group : PGroup
  pub is_table : IsTableOf P group
  pub holds : Holds group

-- Consistency: what is true of a consistent presentation, and of the group that it gives.
use Rattle.std.specs.Prelude.{◌≡◌, ◌<◌, ◌≤◌, ◌^◌, None}
use Rattle.group_table.specs.Tables.{GroupTable}
use Rattle.power_commutator.specs.Presentations.{Presentation as Presented, IsPresentation, first_fault}
use Rattle.pc_group.specs.GroupOf.{IsGroupOf, HasPowers, HasCommutators}

-- no test is false, and p^n is at most 256
pub record IsConsistent (P : Presented) : Type 0 where
  pub prime : 1 < P.prime
  pub few : P.prime ^ P.gens ≤ 256
  pub valid : IsPresentation P
  pub faultless : first_fault P ≡ None

-- P is consistent, and G is its group, in which the relations of P hold
pub record GivesGroup (P : Presented) (G : GroupTable) : Type 0 where
  pub consistent : IsConsistent P
  pub group : IsGroupOf P G
  pub powers : HasPowers P G
  pub commutators : HasCommutators P G

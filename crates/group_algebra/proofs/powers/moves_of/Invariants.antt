use Rattle.std.proofs.Common.{◌≡◌, List, take}
use Rattle.group_table.specs.Tables.{order}
use Rattle.group_modules.specs.Field.{Below}
use Rattle.radical_layers.specs.Moves.{moves_by}
use Rattle.p_groups.specs.PGroups.{group}
use Rattle.group_algebra.specs.Coordinates.{free_module, sum_coordinates}
use Rattle.group_algebra.specs.Products.{numbers}
use Rattle.group_algebra.proofs.powers.moves_of.Given as goal

abbrev pub invariant-loop-s : goal.invariant-loop-s
invariant-loop-s l = record {
  prime : l.m.p ≡ l.group.table.p;
  width : l.m.width ≡ order l.group.table;
  rows : (gs : List (Below (order l.group.table))) → numbers gs ≡ l.elements
      → l.m.rows ≡ moves_by (group l.group) (free_module l.group 1) (sum_coordinates l.group)
      (take l.s-index gs) l.list.rows;
}

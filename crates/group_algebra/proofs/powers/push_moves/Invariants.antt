use Rattle.std.proofs.Common.{◌≡◌, ◌<◌, ◌++◌, length, map, take}
use Rattle.group_table.specs.Prime.{prime_value}
use Rattle.group_table.specs.Tables.{order}
use Rattle.radical_layers.specs.Moves.{move_row}
use Rattle.p_groups.specs.PGroups.{group}
use Rattle.fp_rows.proofs.Turns.{AreLeft, passed}
use Rattle.group_algebra.specs.Coordinates.{free_module, sum_coordinates}
use Rattle.group_algebra.proofs.powers.push_moves.Given as goal

abbrev pub invariant-loop-row : goal.invariant-loop-row
invariant-loop-row l = record {
  is_prime : prime_value l.p ≡ l.group.table.p;
  left : AreLeft l.list (passed l.list l.row-iterator) l.row-iterator;
  primes : (l.a.p ≡ l.group.table.p) × (l.moved.p ≡ l.group.table.p) × (l.out.p ≡ l.group.table.p);
  lengths : (length l.a.entries ≡ order l.group.table) × (length l.moved.entries ≡ order l.group.table)
      × (length l.out.entries ≡ order l.group.table);
  kept : (l.m.p ≡ l.fn.m.p) × (l.m.width ≡ l.fn.m.width);
  moves : (b : l.g < order l.group.table)
      → l.m.rows
      ≡ l.fn.m.rows ++ map (move_row (group l.group) (free_module l.group 1) (sum_coordinates l.group) (
        l.g,
        b,
      ))
      (take (passed l.list l.row-iterator) l.list.rows);
}

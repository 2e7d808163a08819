use Rattle.std.proofs.Common.{◌≡◌, map, take}
use Rattle.group_table.specs.Prime.{prime_value}
use Rattle.linear_algebra.specs.Rows.{IsEchelonOf, pivot}
use Rattle.fp_rows.specs.Lists.{lists, AreOver}
use Rattle.fp_rows.proofs.spans.echelon.Given as goal

abbrev pub invariant-loop-r : goal.invariant-loop-r
invariant-loop-r l = record {
  rows_are : IsEchelonOf (prime_value l.m-inside.prime) l.m-inside.width (take l.r-index (lists l.r-items))
      (lists l.rows.items);
  over : AreOver (prime_value l.m-inside.prime) l.rows.items;
  pivots_are : l.pivots.items ≡ map pivot (lists l.rows.items);
}

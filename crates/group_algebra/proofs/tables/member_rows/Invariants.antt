use Rattle.std.proofs.Common.{◌≡◌, length}
use Rattle.group_table.specs.Prime.{prime_value}
use Rattle.group_table.specs.Tables.{order}
use Rattle.linear_algebra.specs.Rows.{row}
use Rattle.fp_rows.proofs.Turns.{AreLeft}
use Rattle.group_algebra.specs.Coefficients.{AreSumCoordinates}
use Rattle.group_algebra.specs.Tables.{HasShape, EachRow}
use Rattle.group_algebra.proofs.tables.member_rows.Given as goal

abbrev pub invariant-loop-row : goal.invariant-loop-row
invariant-loop-row l = record {
  is_prime : prime_value l.p ≡ l.group.table.p;
  left : AreLeft l.basis (length l.m.rows) l.row-iterator;
  shape : HasShape l.group (length l.m.rows) l.m;
  prime : l.a.p ≡ l.group.table.p;
  length_is : length l.a.entries ≡ order l.group.table;
  rows : EachRow (λ i x. AreSumCoordinates l.group.table.p (order l.group.table) x
      (row l.basis.rows i)) l.m.rows;
}

use Rattle.std.proofs.Common.{◌≡◌, ◌<◌, ◌*◌, ℕ, length}
use Rattle.group_table.specs.Tables.{order}
use Rattle.linear_algebra.specs.Rows.{row}
use Rattle.group_algebra.specs.RowMaps.{map_row}
use Rattle.chain_lift.specs.RowMaps.{image_row, section_of}
use Rattle.chain_lift.proofs.maps.next_rows.Given as goal

abbrev pub invariant-loop-i : goal.invariant-loop-i
invariant-loop-i l = record {
  value_prime : l.value.p ≡ l.algebra.table.p;
  value_length : length l.value.entries ≡ order l.algebra.table * l.rank;
  lifted_prime : l.lifted.p ≡ l.algebra.table.p;
  lifted_length : length l.lifted.entries ≡ l.target.kernel.width;
  rows_prime : l.rows.p ≡ l.algebra.table.p;
  rows_width : l.rows.width ≡ l.target.kernel.width;
  count : length l.rows.rows ≡ l.i;
  each : (i : ℕ) → i < l.i
      → row l.rows.rows i ≡ section_of l.target
      (map_row l.algebra l.rank l.before.rows (image_row l.source i));
}

use Rattle.std.proofs.Common.{◌≡◌, ◌<◌, ◌≤◌, ℕ, length}
use Rattle.group_table.specs.Tables.{order}
use Rattle.linear_algebra.specs.Rows.{entry, row}
use Rattle.fp_rows.specs.Refs.{entries_of}
use Rattle.group_algebra.specs.Coordinates.{row_of}
use Rattle.chain_lift.specs.RowMaps.{multiple_of_one}
use Rattle.chain_lift.proofs.maps.first_rows.Given as goal

abbrev pub invariant-loop-i : goal.invariant-loop-i
invariant-loop-i l = record {
  multiple_prime : l.multiple.p ≡ l.algebra.table.p;
  multiple_length : length l.multiple.entries ≡ order l.algebra.table;
  zeros : (k : ℕ) → 1 ≤ k → entry l.multiple.entries k ≡ 0;
  layers_prime : l.layers.p ≡ l.algebra.table.p;
  layers_length : length l.layers.entries ≡ order l.algebra.table;
  rows_prime : l.rows.p ≡ l.algebra.table.p;
  rows_width : l.rows.width ≡ order l.algebra.table;
  count : length l.rows.rows ≡ l.i;
  each : (i : ℕ) → i < l.i
      → row l.rows.rows i ≡ row_of l.algebra 1 (multiple_of_one l.algebra (entry (entries_of l.class) i));
}

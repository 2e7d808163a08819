use Rattle.std.proofs.Common.{◌≡◌, ◌<◌, ◌*◌, ℕ, length}
use Rattle.group_table.specs.Tables.{order}
use Rattle.linear_algebra.specs.Rows.{row}
use Rattle.chain_lift.specs.EmbeddingRows.{AreScratchRows, listed, value_along}
use Rattle.chain_lift.specs.RowMaps.{image_row, section_of}
use Rattle.chain_lift.proofs.embedding_maps.next_rows_along.Given as goal

abbrev pub invariant-loop-i : goal.invariant-loop-i
invariant-loop-i l = record {
  scratch : AreScratchRows l.e l.g l.rank l.scratch.block l.scratch.coefficients l.scratch.moved;
  value_prime : l.value.p ≡ l.g.table.p;
  value_length : length l.value.entries ≡ order l.g.table * l.rank;
  lifted_prime : l.lifted.p ≡ l.g.table.p;
  lifted_length : length l.lifted.entries ≡ l.target.kernel.width;
  rows_prime : l.rows.p ≡ l.g.table.p;
  rows_width : l.rows.width ≡ l.target.kernel.width;
  count : length l.rows.rows ≡ l.i;
  each : (i : ℕ) → i < l.i → row l.rows.rows i
      ≡ section_of l.target (value_along l.e l.g (listed l.e l.g l.subgroup.images) l.rank l.before.rows
      (image_row l.source i));
}

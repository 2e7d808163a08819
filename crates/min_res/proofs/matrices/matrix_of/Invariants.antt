use Rattle.std.proofs.Common.{◌≡◌, ◌<◌, ℕ, length}
use Rattle.linear_algebra.specs.Rows.{row}
use Rattle.linear_algebra.specs.Kernels.{unit_row}
use Rattle.p_groups.specs.PGroups.{prime_of}
use Rattle.group_algebra.specs.RowMaps.{map_row}
use Rattle.min_res.proofs.matrices.matrix_of.Given as goal

abbrev pub invariant-loop-j : goal.invariant-loop-j
invariant-loop-j l = record {
  value_prime : l.value.p ≡ prime_of l.algebra;
  value_length : length l.value.entries ≡ l.rows.width;
  matrix_prime : l.matrix.p ≡ l.rows.p;
  matrix_width : l.matrix.width ≡ l.rows.width;
  count : length l.matrix.rows ≡ l.j;
  each : (i : ℕ) → i < l.j → row l.matrix.rows i ≡ map_row l.algebra l.target l.rows.rows
      (unit_row l.dimension i);
}

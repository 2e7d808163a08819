use Rattle.std.proofs.Common.{◌≡◌, ℕ, ◌<◌, length}
use Rattle.group_table.specs.Prime.{prime_value}
use Rattle.linear_algebra.specs.Rows.{row}
use Rattle.linear_algebra.specs.Kernels.{unit_row}
use Rattle.cohomology_degree.proofs.generators.unit_rows.Given as goal

abbrev pub invariant-loop-i : goal.invariant-loop-i
invariant-loop-i l = record {
  prime : l.rows.p ≡ prime_value l.fn.p;
  width : l.rows.width ≡ l.width;
  count : length l.rows.rows ≡ l.i;
  each : (k : ℕ) → k < l.i → row l.rows.rows k ≡ unit_row l.width k;
  unit_prime : l.unit.p ≡ prime_value l.fn.p;
  unit_length : length l.unit.entries ≡ l.width;
}

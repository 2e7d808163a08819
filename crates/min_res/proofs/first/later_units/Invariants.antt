use Rattle.std.proofs.Common.{◌≡◌, ◌+◌, ◌<◌, ℕ, length}
use Rattle.group_table.specs.Prime.{prime_value}
use Rattle.linear_algebra.specs.Rows.{row}
use Rattle.linear_algebra.specs.Kernels.{unit_row}
use Rattle.min_res.proofs.first.later_units.Given as goal

abbrev pub invariant-loop-i : goal.invariant-loop-i
invariant-loop-i l = record {
  unit_prime : l.unit.p ≡ prime_value l.fn.p;
  unit_length : length l.unit.entries ≡ l.n;
  rows_prime : l.rows.p ≡ prime_value l.fn.p;
  rows_width : l.rows.width ≡ l.n;
  count : length l.rows.rows + 1 ≡ l.i;
  each : (i : ℕ) → i < length l.rows.rows → row l.rows.rows i ≡ unit_row l.n (i + 1);
}

use Rattle.std.proofs.Common.{◌≡◌, ◌<◌, ◌≤◌, ◌+◌, ℕ, length}
use Rattle.linear_algebra.specs.Rows.{row}
use Rattle.group_algebra.proofs.tables.rows_between.Given as goal

abbrev pub invariant-loop-i : goal.invariant-loop-i
invariant-loop-i l = record {
  within : l.i ≤ l.to;
  prime : l.m.p ≡ l.rows.p;
  width : l.m.width ≡ l.rows.width;
  count : l.fn.from + length l.m.rows ≡ l.i;
  rows : (k : ℕ) → l.fn.from + k < l.i → row l.m.rows k ≡ row l.rows.rows (l.fn.from + k);
}

use Rattle.std.proofs.Common.{◌≡◌, ◌<◌, ℕ}
use Rattle.fp_rows.specs.Refs.{entries_of}
use Rattle.linear_algebra.specs.Rows.{entry, pivot, row}
use Rattle.min_res.proofs.row_tests.is_zero_at_pivots.Given as goal

abbrev pub invariant-loop-i : goal.invariant-loop-i
invariant-loop-i l = (i : ℕ) → i < l.i → entry (entries_of l.r) (pivot (row l.list.rows i)) ≡ 0

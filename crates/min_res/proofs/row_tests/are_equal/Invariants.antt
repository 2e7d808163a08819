use Rattle.std.proofs.Common.{◌≡◌, ◌<◌, ℕ}
use Rattle.fp_rows.specs.Refs.{entries_of}
use Rattle.linear_algebra.specs.Rows.{entry}
use Rattle.min_res.proofs.row_tests.are_equal.Given as goal

abbrev pub invariant-loop-j : goal.invariant-loop-j
invariant-loop-j l = (i : ℕ) → i < l.j → entry (entries_of l.a) i ≡ entry (entries_of l.b) i

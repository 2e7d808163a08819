use Rattle.std.proofs.Common.{◌<◌, ℕ}
use Rattle.fp_rows.specs.Refs.{entries_of}
use Rattle.min_res.specs.RecordChecks.{HasSumZero}
use Rattle.min_res.proofs.row_tests.are_sums_zero.Given as goal

abbrev pub invariant-loop-block : goal.invariant-loop-block
invariant-loop-block l = (k : ℕ) → k < l.block → (b : k < l.rank)
    → HasSumZero l.algebra l.rank (entries_of l.r) (k, b)

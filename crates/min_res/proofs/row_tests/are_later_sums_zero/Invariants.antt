use Rattle.std.proofs.Common.{◌<◌, ℕ, length, slice_index}
use Rattle.fp_rows.specs.Refs.{entries_of}
use Rattle.min_res.specs.RecordChecks.{HasSumZero}
use Rattle.min_res.proofs.row_tests.are_later_sums_zero.Given as goal

abbrev pub invariant-loop-block : goal.invariant-loop-block
invariant-loop-block l = (i : ℕ) → i < l.block → (b : i < length l.positions)
    → l.k < slice_index l.positions i
    → HasSumZero l.algebra (length l.positions) (entries_of l.r) (i, b)

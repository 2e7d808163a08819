use Rattle.std.proofs.Common.{◌≡◌, ℕ, ◌<◌}
use Rattle.linear_algebra.specs.Rows.{entry}
use Rattle.fp_rows.proofs.arithmetic.pivot_of.Given as goal

abbrev pub invariant-loop-i : goal.invariant-loop-i
invariant-loop-i l = (j : ℕ) → j < l.i → entry l.r j ≡ 0

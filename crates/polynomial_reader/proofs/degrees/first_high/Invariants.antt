use Rattle.std.proofs.Common.{ℕ, ◌<◌, ◌≤◌, get_or}
use Rattle.limits.specs.declared.TheConstants.{GREATEST_DEGREE}
use Rattle.polynomial_reader.proofs.degrees.first_high.Given as goal

abbrev pub invariant-loop-e : goal.invariant-loop-e
invariant-loop-e l = (k : ℕ) → k < l.e-index → get_or l.degrees k 0 ≤ GREATEST_DEGREE

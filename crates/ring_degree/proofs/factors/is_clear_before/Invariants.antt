use Rattle.std.proofs.Common.{◌≡◌, ℕ, ◌<◌}
use Rattle.graded_polynomials.specs.Monomials.{exponent}
use Rattle.ring_degree.proofs.factors.is_clear_before.Given as goal

abbrev pub invariant-loop-k : goal.invariant-loop-k
invariant-loop-k l = (j : ℕ) → j < l.k → exponent l.m j ≡ 0

use Rattle.std.proofs.Common.{◌≡◌, ℕ, ◌<◌, length}
use Rattle.graded_polynomials.specs.Monomials.{exponent}
use Rattle.ring_completion.specs.Listings.{without_factor}
use Rattle.ring_degree.proofs.factors.quotient.Given as goal

-- the first exponents
abbrev pub invariant-loop-k : goal.invariant-loop-k
invariant-loop-k l = record {
  count : length l.exponents.items ≡ l.k;
  each : (j : ℕ) → j < l.k → exponent l.exponents.items j ≡ exponent (without_factor l.i l.m) j;
}

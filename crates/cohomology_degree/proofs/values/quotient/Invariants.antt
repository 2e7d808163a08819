use Rattle.std.proofs.Common.{◌≡◌, ℕ, ◌<◌, length}
use Rattle.graded_polynomials.specs.Monomials.{exponent}
use Rattle.cohomology_degree.proofs.values.quotient.Given as goal

abbrev pub invariant-loop-i : goal.invariant-loop-i
invariant-loop-i l = record {
  count : length l.exponents.items ≡ l.i;
  each : (k : ℕ) → k < l.i → exponent l.exponents.items k ≡ exponent l.m k;
}

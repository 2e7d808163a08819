use Rattle.std.proofs.Common.{◌≡◌, ℕ, ◌<◌}
use Rattle.graded_polynomials.specs.Monomials.{exponent}
use Rattle.gc_poly.proofs.mono.Mono.is_greater.Given as goal

abbrev pub invariant-loop-i : goal.invariant-loop-i
invariant-loop-i l = (j : ℕ) → j < l.i → exponent l.self j ≡ exponent l.other j

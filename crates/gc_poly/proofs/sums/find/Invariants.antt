use Rattle.std.proofs.Common.{ℕ, ◌<◌}
use Rattle.std.specs.Prelude.{slice_index_or}
use Rattle.graded_polynomials.specs.Monomials.{IsGreater}
use Rattle.graded_polynomials.specs.Polynomials.{Term}
use Rattle.gc_poly.proofs.sums.find.Given as goal

-- the terms so far are greater
abbrev pub invariant-loop-i : goal.invariant-loop-i
invariant-loop-i l = (k : ℕ) (d : Term) → k < l.i → IsGreater (slice_index_or l.terms k d).monomial l.m

use Rattle.std.proofs.Common.{◌≡◌, ℕ, ◌-◌, ◌^◌, ◌<◌, min, length, drop, get_or}
use Rattle.graded_polynomials.specs.AllMonomials.{all_monomials}
use Rattle.gc_poly.specs.Generators.{greatest}
use Rattle.gc_poly.proofs.enumeration.count_monomials.Given as goal

-- the counts of the monomials in the generators from i on
abbrev pub invariant-loop-i : goal.invariant-loop-i
invariant-loop-i l = (j : ℕ) → j < 25 → get_or l.counts j 0 ≡ min
    (length (all_monomials (greatest l.gens) (drop l.i l.gens.degrees) j)) (2 ^ 64 - 1)

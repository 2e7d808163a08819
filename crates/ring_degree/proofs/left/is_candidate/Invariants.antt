use Rattle.std.proofs.Common.{ℕ, ◌<◌, ◌-◌, length}
use Rattle.graded_polynomials.specs.Monomials.{exponent}
use Rattle.ring_completion.specs.Candidates.{IsListed}
use Rattle.ring_completion.specs.Listings.{without_factor}
use Rattle.ring_degree.specs.Tables.{at_generator, standard_at}
use Rattle.ring_degree.proofs.left.is_candidate.Given as goal

-- the quotients by the first generators are standard
abbrev pub invariant-loop-i : goal.invariant-loop-i
invariant-loop-i l = (j : ℕ) → j < l.i → 0 < exponent l.m j
    → IsListed (standard_at l.tables (length l.tables - at_generator l.gens.degrees j))
    (without_factor j l.m)

-- The monomials of a degree that are products of a generator with a standard monomial: the standard monomials
-- of the degree are among them, and the rest are their border (Kreuzer and Robbiano, "Computational
-- Commutative Algebra 2", 6.4).
use Rattle.std.specs.Prelude.{ℕ, ◌<◌, List, [], length, slice_index_or}
use Rattle.graded_polynomials.specs.Monomials.{IsMonomial}
use Rattle.graded_algebra.specs.Algebras.{Algebra, Generator, degrees}
use Rattle.graded_algebra.specs.Presentations.{IsStandard}
use Rattle.ring_completion.specs.Candidates.{AreSome, IsListed, IsQuotient}

module _ (q : ℕ) {V : Type 0} (A : Algebra V) (gs : List (Generator V)) where
  -- a quotient of m by a generator is standard
  pub record HasStandardQuotient (m : List ℕ) : Type 0 where
    pub generator : ℕ
    pub degree : ℕ
    pub quotient : List ℕ
    pub is_quotient : IsQuotient q (degrees gs) generator degree quotient m
    pub standard : IsStandard q A gs degree quotient

  -- ms are the monomials of degree d of which a quotient by a generator is standard, in descending order
  pub record AreReached (d : ℕ) (ms : List (List ℕ)) : Type 0 where
    pub some : AreSome q (degrees gs) d ms
    pub each : (k : ℕ) → k < length ms → HasStandardQuotient (slice_index_or ms k [])
    pub all : (m : List ℕ) → IsMonomial q (degrees gs) d m → HasStandardQuotient m → IsListed ms m

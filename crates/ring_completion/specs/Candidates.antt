-- The monomials of a degree that can be standard, and those that lead in no consequence of the relations of
-- lower degree (Becker and Weispfenning, "Groebner Bases", 5.3 and 5.5).
use Rattle.std.specs.Prelude.{◌≡◌, ℕ, ◌<◌, ◌⊎◌, List, [], length, slice_index_or}
use Rattle.graded_polynomials.specs.Monomials.{IsMonomial, IsGreater, joined}
use Rattle.graded_polynomials.specs.Polynomials.{Polynomial}
use Rattle.graded_polynomials.specs.Texts.{power}
use Rattle.graded_algebra.specs.Algebras.{Algebra, Generator, degrees}
use Rattle.graded_algebra.specs.Presentations.{IsLeading, IsRelation, IsConsequence, IsStandard}

-- ms are monomials of degree d, in descending order
pub record AreSome (q : ℕ) (ds : List ℕ) (d : ℕ) (ms : List (List ℕ)) : Type 0 where
  pub each : (i : ℕ) → i < length ms → IsMonomial q ds d (slice_index_or ms i [])
  pub descending : (i j : ℕ) → i < j → j < length ms
      → IsGreater (slice_index_or ms i []) (slice_index_or ms j [])

-- m stands in the list
abbrev pub IsListed : List (List ℕ) → List ℕ → Type 0
IsListed ms m = (i : ℕ) × (i < length ms) × (slice_index_or ms i [] ≡ m)

-- n, of degree e, is m without one factor of generator i
pub record IsQuotient (q : ℕ) (ds : List ℕ) (i e : ℕ) (n m : List ℕ) : Type 0 where
  pub monomial : IsMonomial q ds e n
  pub product : joined (power i 1) n ≡ m

module _ (q : ℕ) {V : Type 0} (A : Algebra V) (gs : List (Generator V)) where
  -- a quotient of m by a generator leads in the polynomials of value 0
  pub record HasLeadingQuotient (m : List ℕ) : Type 0 where
    pub generator : ℕ
    pub degree : ℕ
    pub quotient : List ℕ
    pub is_quotient : IsQuotient q (degrees gs) generator degree quotient m
    pub leads : IsLeading q A (IsRelation q A gs degree) quotient

  -- ms are the candidates of degree d, in descending order: the monomials of which each quotient by a
  -- generator is standard
  pub record AreCandidates (d : ℕ) (ms : List (List ℕ)) : Type 0 where
    pub some : AreSome q (degrees gs) d ms
    pub each : (k i e : ℕ) (n : List ℕ) → k < length ms
        → IsQuotient q (degrees gs) i e n (slice_index_or ms k []) → IsStandard q A gs e n
    pub all : (m : List ℕ) → IsMonomial q (degrees gs) d m → IsListed ms m ⊎ HasLeadingQuotient m

  -- ms are the monomials of degree d that lead in no consequence of rs, in descending order
  pub record AreLeft (rs : List Polynomial) (d : ℕ) (ms : List (List ℕ)) : Type 0 where
    pub some : AreSome q (degrees gs) d ms
    pub each : (k : ℕ) → k < length ms
        → IsLeading q A (IsConsequence q A gs rs d) (slice_index_or ms k []) → ⊥
    pub all : (m : List ℕ) → IsMonomial q (degrees gs) d m
        → IsListed ms m ⊎ IsLeading q A (IsConsequence q A gs rs d) m

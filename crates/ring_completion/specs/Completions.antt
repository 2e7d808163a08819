-- Tables of products of generators with standard monomials, and when they agree where two generators are
-- exchanged (Becker and Weispfenning, "Groebner Bases", 5.5; Mora, "An introduction to commutative and
-- noncommutative Groebner bases").
use Rattle.std.specs.Prelude.{◌≡◌, ℕ, ◌+◌, ◌*◌, ◌<◌, true, List, [], ◌∷◌}
use Rattle.std.specs.List.{AllByRecursion as Each}
use Rattle.graded_polynomials.specs.Monomials.{IsMonomial, degree, exponent, sign, is_exterior}
use Rattle.graded_polynomials.specs.Polynomials.{Term, multiple, IsOver}
use Rattle.graded_polynomials.specs.Texts.{power}
use Rattle.graded_algebra.specs.Algebras.{Algebra, Generator, degrees, value, linear, times}
use Rattle.graded_algebra.specs.Presentations.{IsStandard}

-- the monomial m as a polynomial
abbrev pub alone : List ℕ → List Term
alone m = record { scalar = 1; monomial = m } ∷ []

-- generator i times the monomial m
abbrev pub generator_times : ℕ → List ℕ → ℕ → List ℕ → List Term
generator_times q ds i m = multiple q ds 1 (power i 1) (alone m)

-- the degree of generator i
abbrev pub degree_of : List ℕ → ℕ → ℕ
degree_of ds i = degree ds (power i 1)

-- i is one of the generators
abbrev pub IsGenerator : ℕ → List ℕ → ℕ → Type 0
IsGenerator q ds i = IsMonomial q ds (degree_of ds i) (power i 1)

-- no generator before i is a factor of s
abbrev pub IsClearBefore : ℕ → List ℕ → Type 0
IsClearBefore i s = (k : ℕ) → k < i → exponent s k ≡ 0

module _ (q : ℕ) {V : Type 0} (A : Algebra V) (gs : List (Generator V)) where
  -- s is a standard monomial of degree e
  pub record IsStandardOf (e : ℕ) (s : List ℕ) : Type 0 where
    pub monomial : IsMonomial q (degrees gs) e s
    pub standard : IsStandard q A gs e s

  -- g is a sum of standard monomials of degree e
  pub record IsReduced (e : ℕ) (g : List Term) : Type 0 where
    pub over : IsOver q (degrees gs) e g
    pub standard : Each (λ t. IsStandard q A gs e t.monomial) g

  -- products i s is the sum of standard monomials with the value of generator i times s, where it has a
  -- degree below d
  pub record AreProducts (d : ℕ) (products : ℕ → List ℕ → List Term) : Type 0 where
    pub reduced : (i e : ℕ) (s : List ℕ) → IsGenerator q (degrees gs) i → IsStandardOf e s
        → degree_of (degrees gs) i + e < d
        → IsReduced (degree_of (degrees gs) i + e) (products i s)
    pub value_is : (i e : ℕ) (s : List ℕ) → IsGenerator q (degrees gs) i → IsStandardOf e s
        → degree_of (degrees gs) i + e < d
        → value A gs (products i s) ≡ value A gs (generator_times q (degrees gs) i s)

  -- forms i s stands for generator i times s, in degree d: it is the same where the first generator of a
  -- monomial is exchanged with another, and 0 at squares of the first that are 0
  pub record AreConsistent (d : ℕ) (products : ℕ → List ℕ → List Term) (W : Type 0) (B : Algebra W)
      (forms : ℕ → List ℕ → W) : Type 0 where
    pub exchange : (i j e : ℕ) (s : List ℕ) → i < j → IsGenerator q (degrees gs) i
        → IsGenerator q (degrees gs) j → IsStandardOf e s
        → IsClearBefore i s → degree_of (degrees gs) i + (degree_of (degrees gs) j + e) ≡ d
        → linear B (forms i) (products j s)
        ≡ times B (sign q (degree_of (degrees gs) i * degree_of (degrees gs) j))
        (linear B (forms j) (products i s))
    pub square : (i e : ℕ) (s : List ℕ) → IsGenerator q (degrees gs) i
        → is_exterior q (degree_of (degrees gs) i) ≡ true → IsStandardOf e s
        → IsClearBefore i s → degree_of (degrees gs) i + (degree_of (degrees gs) i + e) ≡ d
        → linear B (forms i) (products i s) ≡ B.zero

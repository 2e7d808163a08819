-- Polynomials as sums of terms, for the prime p = q + 1, over generators with the degrees ds.
use Rattle.std.specs.Prelude.{◌≡◌, ℕ, suc, ◌+◌, ◌*◌, ◌<◌, ◌≤◌, cond, ◌⊎◌, List, [], ◌∷◌, ◌++◌, AllPairs}
use Rattle.std.specs.List.{AllByRecursion as Each}
use Rattle.linear_algebra.specs.Modular.{IsCongruent}
use Rattle.graded_polynomials.specs.Monomials.{IsMonomial, IsGreater, fits, joined, swaps, sign, same}

-- a number times a monomial
pub record Term : Type 0 where
  pub scalar : ℕ
  pub monomial : List ℕ

-- what stands before m in a sum of terms, read modulo p
abbrev pub coefficient : List Term → List ℕ → ℕ
coefficient [] m = 0
coefficient (t ∷ f) m = cond (same t.monomial m) t.scalar 0 + coefficient f m

-- f and g are the same polynomial
pub record IsSame (q : ℕ) (f g : List Term) : Type 0 where
  pub at : (m : List ℕ) → IsCongruent (suc q) (coefficient f m) (coefficient g m)

-- each term has the degree d
abbrev pub IsOver : ℕ → List ℕ → ℕ → List Term → Type 0
IsOver q ds d f = Each (λ t. IsMonomial q ds d t.monomial) f

-- a polynomial as it is stored: descending terms with coefficients from 1 to p - 1
pub record IsPolynomial (q : ℕ) (ds : List ℕ) (d : ℕ) (f : List Term) : Type 0 where
  pub over : IsOver q ds d f
  pub coefficients : Each (λ t. (0 < t.scalar) × (t.scalar ≤ q)) f
  pub descending : AllPairs (λ s t. IsGreater s.monomial t.monomial) f

-- c times f
abbrev pub scaled : ℕ → List Term → List Term
scaled c [] = []
scaled c (t ∷ f) = record { scalar = c * t.scalar; monomial = t.monomial } ∷ scaled c f

-- c times the monomial m times f: a product of monomials has the sign of its exchanges, and is 0 where an odd
-- generator comes twice
abbrev pub multiple : ℕ → List ℕ → ℕ → List ℕ → List Term → List Term
multiple q ds c m [] = []
multiple q ds c m (t ∷ f) =
    cond (fits q ds (joined m t.monomial))
    (record {
      scalar = c * (sign q (swaps ds m t.monomial) * t.scalar);
      monomial = joined m t.monomial;
    } ∷ multiple q ds c m f)
    (multiple q ds c m f)

-- the product, term by term
abbrev pub product : ℕ → List ℕ → List Term → List Term → List Term
product q ds [] g = []
product q ds (t ∷ f) g = multiple q ds t.scalar t.monomial g ++ product q ds f g

-- a sum of terms with the degree that it is meant to have, also where it is 0
pub record Polynomial : Type 0 where
  pub degree : ℕ
  pub terms : List Term

-- x stands in the list
abbrev pub IsOneOf : {X : Type 0} → X → List X → Type 0
IsOneOf x [] = ⊥
IsOneOf x (y ∷ ys) = (x ≡ y) ⊎ IsOneOf x ys

-- scalar times the monomial by times the polynomial of
pub record Multiple : Type 0 where
  pub scalar : ℕ
  pub by : List ℕ
  pub of : Polynomial

-- the sum of multiples of polynomials
abbrev pub total : ℕ → List ℕ → List Multiple → List Term
total q ds [] = []
total q ds (t ∷ ts) = multiple q ds t.scalar t.by t.of.terms ++ total q ds ts

-- t is a multiple of degree d of one of rs
pub record IsMultiple (q : ℕ) (ds : List ℕ) (rs : List Polynomial) (d : ℕ) (t : Multiple) : Type 0 where
  pub given : IsOneOf t.of rs
  pub rest : ℕ
  pub monomial : IsMonomial q ds rest t.by
  pub degree_is : rest + t.of.degree ≡ d

-- f, of degree d, is in the ideal of rs
pub record IsInIdeal (q : ℕ) (ds : List ℕ) (rs : List Polynomial) (d : ℕ) (f : List Term) : Type 0 where
  pub multiples : List Multiple
  pub each : Each (IsMultiple q ds rs d) multiples
  pub sum : IsSame q f (total q ds multiples)

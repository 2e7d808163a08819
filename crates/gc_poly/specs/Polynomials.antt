-- Stored polynomials, and what a call that makes one says of it.
use Rattle.std.specs.Prelude.{◌≡◌, ℕ, ◌+◌, ◌<◌, List, All, AllPairs, ◌⊎◌}
use Rattle.graded_polynomials.specs.Monomials.{IsGreater, IsMonomial}
use Rattle.graded_polynomials.specs.Polynomials.{Term, Polynomial, IsPolynomial, IsSame}
use Rattle.gc_poly.specs.Generators.{Generators, greatest}

-- the terms descend, and no coefficient is 0
pub record AreStored (f : List Term) : Type 0 where
  pub nonzero : All (λ t. 0 < t.scalar) f
  pub descending : AllPairs (λ s t. IsGreater s.monomial t.monomial) f

-- no term has a monomial greater than m
abbrev pub AreBelow : List ℕ → List Term → Type 0
AreBelow m f = All (λ t. (t.monomial ≡ m) ⊎ IsGreater m t.monomial) f

-- m is a monomial of degree d in the generators
abbrev pub IsMonomialOf : Generators → ℕ → List ℕ → Type 0
IsMonomialOf g d m = IsMonomial (greatest g) g.degrees d m

-- m and n are monomials whose degrees add to d
pub record AreFactors (g : Generators) (d : ℕ) (m n : List ℕ) : Type 0 where
  pub left : ℕ
  pub right : ℕ
  pub left_is : IsMonomialOf g left m
  pub right_is : IsMonomialOf g right n
  pub sum : left + right ≡ d

-- f is a polynomial over the generators
abbrev pub IsOverGenerators : Generators → Polynomial → Type 0
IsOverGenerators g f = IsPolynomial (greatest g) g.degrees f.degree f.terms

-- f is the polynomial of degree d that is the sum of the terms
pub record IsSumOf (g : Generators) (d : ℕ) (terms : List Term) (f : Polynomial) : Type 0 where
  pub degree_is : f.degree ≡ d
  pub over : IsOverGenerators g f
  pub same : IsSame (greatest g) f.terms terms

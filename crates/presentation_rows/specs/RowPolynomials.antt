-- Rows over a list of monomials, and the sums of terms that they stand for, for the prime p = q + 1.
use Rattle.std.specs.Prelude.{ℕ, zero, suc, ◌%◌, List, [], ◌∷◌, map}
use Rattle.graded_polynomials.specs.Polynomials.{Term, coefficient}

-- one term for each place of the row that is not 0: its entry times the monomial at that place
abbrev pub polynomial_of : List (List ℕ) → List ℕ → List Term
polynomial_of [] u = []
polynomial_of (m ∷ ms) [] = []
polynomial_of (m ∷ ms) (zero ∷ u) = polynomial_of ms u
polynomial_of (m ∷ ms) (suc c ∷ u) = record { scalar = suc c; monomial = m } ∷ polynomial_of ms u

-- the coefficients of f at the monomials, modulo p
abbrev pub row_of : ℕ → List (List ℕ) → List Term → List ℕ
row_of q ms f = map (λ m. coefficient f m % suc q) ms

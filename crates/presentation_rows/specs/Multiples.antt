-- The multiples of polynomials by monomials, by rows.
use Rattle.std.specs.Prelude.{◌≡◌, ℕ, ◌<◌, List, length}
use Rattle.linear_algebra.specs.Rows.{row}
use Rattle.graded_polynomials.specs.Polynomials.{Term, Polynomial, Multiple, multiple, IsMultiple}
use Rattle.presentation_rows.specs.RowPolynomials.{row_of}

-- scalar times the monomial times the polynomial
abbrev pub terms_of : ℕ → List ℕ → Multiple → List Term
terms_of q ds t = multiple q ds t.scalar t.by t.of.terms

-- the rows over ms are those of the multiples of degree d of the polynomials rs by single monomials
pub record AreMultiples (q : ℕ) (ds : List ℕ) (rs : List Polynomial) (d : ℕ)
    (ms rows : List (List ℕ)) : Type 0 where
  pub each : (i : ℕ) → i < length rows → (t : Multiple) × IsMultiple q ds rs d t
      × (row rows i ≡ row_of q ms (terms_of q ds t))
  pub all : (t : Multiple) → IsMultiple q ds rs d t → t.scalar ≡ 1 → (i : ℕ) × (i < length rows)
      × (row rows i ≡ row_of q ms (terms_of q ds t))

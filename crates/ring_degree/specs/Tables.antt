-- What is kept of the degrees 0 to n of a ring: standard monomials, and their products with generators as
-- rows over standard monomials.
use Rattle.std.specs.Prelude.{◌≡◌, ℕ, suc, ◌+◌, ◌-◌, ◌<◌, ◌≤◌, cond, List, [], ◌∷◌, drop, length, map}
use Rattle.std.specs.Prelude.{slice_index_or}
use Rattle.linear_algebra.specs.Rows.{row, IsMatrix}
use Rattle.fp_rows.specs.Values.{MatrixValue}
use Rattle.graded_polynomials.specs.Monomials.{degree, same}
use Rattle.graded_polynomials.specs.Polynomials.{Term}
use Rattle.graded_algebra.specs.Algebras.{Generator, degrees}
use Rattle.graded_algebra.specs.Vectors.{Vector, GradedAlgebra, algebra}
use Rattle.presentation_rows.specs.RowPolynomials.{polynomial_of}
use Rattle.gc_poly.specs.Generators.{Generators, greatest}
use Rattle.ring_completion.specs.Candidates.{AreSome}
use Rattle.ring_completion.specs.Completions.{degree_of, AreProducts}
use Rattle.ring_completion.specs.Listings.{AreStandardLists}
use Rattle.ring_degree.specs.declared.table.Table.{Table}

-- the degree of generator i
abbrev pub at_generator : List ℕ → ℕ → ℕ
at_generator ds i = slice_index_or ds i 0

-- the standard monomials of the degrees 0, 1, ..
abbrev pub lists : List Table → List (List (List ℕ))
lists tables = map (λ t. t.standard) tables

-- the standard monomials of degree e
abbrev pub standard_at : List Table → ℕ → List (List ℕ)
standard_at tables e = slice_index_or (lists tables) e []

-- the place of m in a list, and the length where it is not there
abbrev pub place_of : List (List ℕ) → List ℕ → ℕ
place_of [] m = 0
place_of (a ∷ ms) m = cond (same a m) 0 (suc (place_of ms m))

-- the rows of the matrix of generator i
abbrev pub rows_at : List MatrixValue → ℕ → List (List ℕ)
rows_at matrices i = slice_index_or (map (λ (m : MatrixValue). m.rows) matrices) i []

-- the matrices of degree e
abbrev pub products_at : List Table → ℕ → List MatrixValue
products_at tables e = slice_index_or (map (λ t. t.products.items) tables) e []

-- the rows, of degree e, of the products with generator i
abbrev pub product_rows : List Table → ℕ → ℕ → List (List ℕ)
product_rows tables e i = rows_at (products_at tables e) i

-- generator i times the standard monomial s, as a sum of standard monomials
abbrev pub product_in : List ℕ → List Table → ℕ → List ℕ → List Term
product_in ds tables i s = polynomial_of (standard_at tables (degree_of ds i + degree ds s))
    (row (product_rows tables (degree_of ds i + degree ds s) i)
    (place_of (standard_at tables (degree ds s)) s))

-- a matrix for each generator of degree at most e, with a row over a list of so many members for each of the
-- standard monomials of the degree that is left
pub record AreMatrices (g : Generators) (tables : List Table) (e width : ℕ)
    (matrices : List MatrixValue) : Type 0 where
  pub count : (i : ℕ) → i < length g.degrees → at_generator g.degrees i ≤ e → i < length matrices
  pub primes : (i : ℕ) (m : MatrixValue) → i < length g.degrees → at_generator g.degrees i ≤ e
      → (slice_index_or matrices i m).p ≡ g.prime
  pub widths : (i : ℕ) (m : MatrixValue) → i < length g.degrees → at_generator g.degrees i ≤ e
      → (slice_index_or matrices i m).width ≡ width
  pub rows : (i : ℕ) → i < length g.degrees → at_generator g.degrees i ≤ e
      → IsMatrix g.prime width (rows_at matrices i)
  pub counts : (i : ℕ) → i < length g.degrees → at_generator g.degrees i ≤ e
      → length (rows_at matrices i) ≡ length (standard_at tables (e - at_generator g.degrees i))

-- monomials of each degree, with the matrices of their products
pub record AreTables (g : Generators) (tables : List Table) : Type 0 where
  pub monomials : (e : ℕ) → e < length tables → AreSome (greatest g) g.degrees e (standard_at tables e)
  pub products : (e : ℕ) → e < length tables
      → AreMatrices g tables e (length (standard_at tables e)) (products_at tables e)

-- the tables are those of the standard monomials of degrees 0 to n of an algebra
pub record AreTablesOf (q : ℕ) (G : GradedAlgebra q) (gs : List (Generator (Vector q))) (n : ℕ)
    (tables : List Table) : Type 0 where
  pub count : length tables ≡ suc n
  pub one : standard_at tables 0 ≡ [] ∷ []
  pub standard : AreStandardLists q (algebra q G) gs n (drop 1 (lists tables))
  pub products : AreProducts q (algebra q G) gs (suc n) (product_in (degrees gs) tables)

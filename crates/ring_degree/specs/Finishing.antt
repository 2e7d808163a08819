-- The products of a degree as rows, before they are reduced.
use Rattle.std.specs.Prelude.{◌≡◌, ℕ, ◌-◌, ◌<◌, ◌≤◌, List, [], ◌∷◌, ◌++◌, length, map, replicate}
use Rattle.std.specs.Prelude.{slice_index_or}
use Rattle.linear_algebra.specs.Rows.{row}
use Rattle.fp_rows.specs.Values.{MatrixValue}
use Rattle.graded_polynomials.specs.Texts.{power}
use Rattle.gc_poly.specs.Generators.{Generators, greatest}
use Rattle.presentation_rows.specs.RowPolynomials.{row_of}
use Rattle.ring_completion.specs.Candidates.{IsListed}
use Rattle.ring_completion.specs.Completions.{generator_times}
use Rattle.ring_degree.specs.Tables.{at_generator, rows_at, standard_at}
use Rattle.ring_degree.specs.declared.table.Table.{Table}

-- a matrix for each generator of degree below d, the number of the tables, with a row over a list of so many
-- members for each of the standard monomials of the degree that is left
pub record AreFormsBelow (g : Generators) (tables : List Table) (width : ℕ)
    (matrices : List MatrixValue) : Type 0 where
  pub count : (i : ℕ) → i < length g.degrees → at_generator g.degrees i < length tables → i < length matrices
  pub primes : (i : ℕ) (m : MatrixValue) → i < length g.degrees → at_generator g.degrees i < length tables
      → (slice_index_or matrices i m).p ≡ g.prime
  pub widths : (i : ℕ) (m : MatrixValue) → i < length g.degrees → at_generator g.degrees i < length tables
      → (slice_index_or matrices i m).width ≡ width
  pub counts : (i : ℕ) → i < length g.degrees → at_generator g.degrees i < length tables
      → length (rows_at matrices i) ≡ length (standard_at tables (length tables - at_generator g.degrees i))

-- the monomials of the generators of degree d are on the list
abbrev pub HasNewGenerators : Generators → ℕ → List (List ℕ) → Type 0
HasNewGenerators g d left =
    (i : ℕ) → i < length g.degrees → d ≤ at_generator g.degrees i → IsListed left (power i 1)

-- the rows over the list of the products with generator i: the forms with zeros behind, or for a generator of
-- degree d its own row
pub record IsProductForm (g : Generators) (tables : List Table) (forms : List MatrixValue)
    (left : List (List ℕ)) (width i : ℕ) (m : MatrixValue) : Type 0 where
  pub prime : m.p ≡ g.prime
  pub width_is : m.width ≡ length left
  pub old : at_generator g.degrees i < length tables
      → m.rows ≡ map (λ v. v ++ replicate (length left - width) 0) (rows_at forms i)
  pub lengths : at_generator g.degrees i < length tables → (k : ℕ) → k < length (rows_at forms i)
      → length (row (rows_at forms i) k) ≡ width
  pub new : length tables ≤ at_generator g.degrees i
      → m.rows ≡ row_of (greatest g) left (generator_times (greatest g) g.degrees i []) ∷ []

-- The rows of exchanges and squares, over a list of monomials of degree d, from the rows of the products with
-- generators.
use Rattle.std.specs.Prelude.{◌≡◌, ℕ, suc, ◌+◌, ◌*◌, ◌%◌, ◌<◌, ◌≤◌, ◌⊎◌, true, cond, eqb, List, [], All}
use Rattle.std.specs.Prelude.{length, slice_index_or}
use Rattle.linear_algebra.specs.Rows.{entry, row, add_multiple, combination_row}
use Rattle.limits.specs.declared.TheConstants.{GREATEST_DEGREE}
use Rattle.graded_polynomials.specs.Monomials.{is_exterior, sign}
use Rattle.gc_poly.specs.Generators.{Generators}
use Rattle.fp_rows.specs.Values.{MatrixValue}
use Rattle.ring_completion.specs.Completions.{IsClearBefore}
use Rattle.ring_degree.specs.declared.table.Table.{Table}
use Rattle.ring_degree.specs.Tables.{at_generator, standard_at, rows_at, product_rows, AreMatrices, AreTables}

-- tables of lower degrees, and for each generator the rows over a list of so many members of its products of
-- the next degree
pub record ArePairs (g : Generators) (tables : List Table) (width : ℕ)
    (forms : List MatrixValue) : Type 0 where
  pub small : length tables ≤ GREATEST_DEGREE
  pub below : All (λ e. e < length tables) g.degrees
  pub tables_are : AreTables g tables
  pub forms_are : AreMatrices g tables (length tables) width forms

-- the generators i and j and monomial k of degree e make a product of the next degree
pub record IsPair (ds : List ℕ) (tables : List Table) (e i j k : ℕ) : Type 0 where
  pub first : i < length ds
  pub second : j < length ds
  pub degree_is : at_generator ds i + (at_generator ds j + e) ≡ length tables
  pub within : k < length (standard_at tables e)

-- generator i comes before generator j, or is j, and then its square is 0
abbrev pub IsFirst : ℕ → List ℕ → ℕ → ℕ → Type 0
IsFirst q ds i j = (i < j) ⊎ ((i ≡ j) × (is_exterior q (at_generator ds i) ≡ true))

module _ (q : ℕ) (ds : List ℕ) (tables : List Table) (width : ℕ) (forms : List MatrixValue) where
  -- the form of generator i times the product of generator j with monomial k of degree e
  abbrev pub form_of_product : ℕ → ℕ → ℕ → ℕ → List ℕ
  form_of_product e i j k = combination_row (suc q) width
      (entry (row (product_rows tables (at_generator ds j + e) j) k)) (rows_at forms i)

  -- the exchange of the generators i and j at monomial k of degree e
  abbrev pub exchange_row : ℕ → ℕ → ℕ → ℕ → List ℕ
  exchange_row e i j k = add_multiple (suc q)
      (q * sign q (at_generator ds i * at_generator ds j) % suc q)
      (form_of_product e i j k) (form_of_product e j i k)

  -- the row of the generators i and j at monomial k of degree e: their exchange, or the square of one
  abbrev pub pair_row : ℕ → ℕ → ℕ → ℕ → List ℕ
  pair_row e i j k = cond (eqb i j) (form_of_product e i j k) (exchange_row e i j k)

  -- v is the row of i and j at a monomial that has no factor before i
  pub record IsPairRow (i j : ℕ) (v : List ℕ) : Type 0 where
    pub low : ℕ
    pub place : ℕ
    pub within : place < length (standard_at tables low)
    pub degree_is : at_generator ds i + (at_generator ds j + low) ≡ length tables
    pub clear : IsClearBefore i (slice_index_or (standard_at tables low) place [])
    pub row_is : v ≡ pair_row low i j place

  -- v is a row of i and j, where i is before j, or is j and its square is 0
  abbrev pub IsRowOf : ℕ → ℕ → List ℕ → Type 0
  IsRowOf i j v = IsFirst q ds i j × IsPairRow i j v

  -- v is a critical row in which generator i comes first
  abbrev pub IsCriticalWith : ℕ → List ℕ → Type 0
  IsCriticalWith i v = (j : ℕ) × (j < length ds) × IsRowOf i j v

  abbrev pub IsCriticalRow : List ℕ → Type 0
  IsCriticalRow v = (i : ℕ) × (i < length ds) × IsCriticalWith i v

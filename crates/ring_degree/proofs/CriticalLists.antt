-- Critical rows, one place and one generator after another.
use Rattle.std.proofs.Common.{◌≡◌, ◌≢◌, ℕ, suc, ◌+◌, ◌*◌, ◌%◌, ◌<◌, true, false, eqb, List, [], ◌∷◌, ◌++◌}
use Rattle.std.proofs.Common.{◌⊎◌, inl, inr}
use Rattle.std.proofs.Common.{length, get_or, slice_get, Some, arith, ap, subst, ◌∙◌, refl}
use Rattle.std.specs.Prelude.{slice_index_or}
use Rattle.std.proofs.lemmas.Bool.{cases_eq, eq-eqb}
use Rattle.std.proofs.lemmas.Option.{get_or_from_slice_get}
use Rattle.linear_algebra.specs.Rows.{entry, row}
use Rattle.linear_algebra.proofs.RowLemmas.{length-add_multiple}
use Rattle.graded_polynomials.specs.Monomials.{sign}
use Rattle.graded_polynomials.proofs.Terms.{eqb-false}
use Rattle.fp_rows.specs.Values.{MatrixValue}
use Rattle.ring_degree.specs.Critical.{form_of_product, exchange_row, pair_row, IsPairRow, IsFirst}
use Rattle.ring_degree.specs.Critical.{IsRowOf}
use Rattle.ring_degree.specs.Products.{Gains}
use Rattle.ring_degree.specs.Tables.{at_generator, standard_at, product_rows, rows_at}
use Rattle.ring_degree.specs.declared.table.Table.{Table}
use Rattle.ring_degree.proofs.FormVectors.{length-combination}
use Rattle.ring_degree.proofs.Gaining.{gains-more, gains-same, gains-push, gains-none}
use Rattle.ring_degree.proofs.Lookups.{standard-is}
use Rattle.ring_degree.proofs.Places.{IsAmong, IsClearAt, among-more, among-same, pairs-are}

-- the monomial that is read at a place of a table
pub monomial-at : (tables : List Table) (e k : ℕ) (t : Table) (m : List ℕ) → e < length tables
    → slice_get (get_or tables e t).standard k ≡ Some m → slice_index_or (standard_at tables e) k [] ≡ m
monomial-at tables e k t m l g = ap (λ ss. slice_index_or ss k []) (standard-is tables e t l)
    ∙ get_or_from_slice_get (get_or tables e t).standard k m [] g

pub length-at : (tables : List Table) (e : ℕ) (t : Table) → e < length tables
    → length (standard_at tables e) ≡ length (get_or tables e t).standard
length-at tables e t l = ap length (standard-is tables e t l)

-- the length of a form and of an exchange
pub length-form : (q : ℕ) (ds : List ℕ) (tables : List Table) (width : ℕ) (forms : List MatrixValue)
    (e i j k : ℕ) → length (form_of_product q ds tables width forms e i j k) ≡ width
length-form q ds tables width forms e i j k = length-combination q (λ d e v w. v) width
    (entry (row (product_rows tables (at_generator ds j + e) j) k)) (rows_at forms i)

pub length-exchange : (q : ℕ) (ds : List ℕ) (tables : List Table) (width : ℕ) (forms : List MatrixValue)
    (e i j k : ℕ) → length (exchange_row q ds tables width forms e i j k) ≡ width
length-exchange q ds tables width forms e i j k =
    length-add_multiple (suc q) (q * sign q (at_generator ds i * at_generator ds j) % suc q)
    (form_of_product q ds tables width forms e i j k) (form_of_product q ds tables width forms e j i k)
    ∙ length-form q ds tables width forms e i j k

-- the row of two generators is the square of one, or their exchange
module _ (q : ℕ) (ds : List ℕ) (tables : List Table) (width : ℕ) (forms : List MatrixValue) (e i j k : ℕ) where
  pub row-of-one : i ≡ j
      → pair_row q ds tables width forms e i j k ≡ form_of_product q ds tables width forms e i j k
  row-of-one h = rw (eq-eqb i j h) refl

  pub row-of-two : i ≢ j
      → pair_row q ds tables width forms e i j k ≡ exchange_row q ds tables width forms e i j k
  row-of-two h = rw (eqb-false i j h) refl

  pub length-pair : length (pair_row q ds tables width forms e i j k) ≡ width
  length-pair = go (cases_eq i j)
    where
      go : (i ≡ j) ⊎ (i ≢ j) → length (pair_row q ds tables width forms e i j k) ≡ width
      go (inl h) = ap length (row-of-one h) ∙ length-form q ds tables width forms e i j k
      go (inr h) = ap length (row-of-two h) ∙ length-exchange q ds tables width forms e i j k

module _ (C : ℕ → Type 0) (row : ℕ → List ℕ) (old : List (List ℕ)) where
  -- a row at a place with C
  pub gains-at : (k : ℕ) (mid new : List (List ℕ)) → C k → Gains (IsAmong C row k) old mid
      → new ≡ mid ++ row k ∷ [] → Gains (IsAmong C row (k + 1)) old new
  gains-at k mid new c g e = gains-more (IsAmong C row k) (λ v. v ≡ row k) (IsAmong C row (k + 1)) old
      mid new g
      (gains-push mid new (row k) e) (among-more C row k (row k) c refl)

  -- none at a place without
  pub gains-not-at : (k : ℕ) (mid : List (List ℕ)) → (C k → ⊥) → Gains (IsAmong C row k) old mid
      → Gains (IsAmong C row (k + 1)) old mid
  gains-not-at k mid c g = gains-same (IsAmong C row k) (IsAmong C row (k + 1)) old mid g
      (among-same C row k c)

module _ (q : ℕ) (ds : List ℕ) (tables : List Table) (width : ℕ) (forms : List MatrixValue)
    (old new : List (List ℕ)) where
  pub pairs-gained : (e i j k : ℕ) → at_generator ds i + (at_generator ds j + e) ≡ length tables
      → k ≡ length (standard_at tables e)
      → Gains (IsAmong (IsClearAt tables e i) (pair_row q ds tables width forms e i j) k) old new
      → Gains (IsPairRow q ds tables width forms i j) old new
  pairs-gained e i j k s l g = gains-same
      (IsAmong (IsClearAt tables e i) (pair_row q ds tables width forms e i j) k)
      (IsPairRow q ds tables width forms i j) old new g
      (pairs-are q ds tables width forms e i j k s l)

  pub rows-gained : (i j : ℕ) → IsFirst q ds i j → Gains (IsPairRow q ds tables width forms i j) old new
      → Gains (IsRowOf q ds tables width forms i j) old new
  rows-gained i j f g = gains-same (IsPairRow q ds tables width forms i j)
      (IsRowOf q ds tables width forms i j) old new g (λ v. ((λ x. x.1), (λ x. (f, x))))

-- rows with T at one of the numbers below b
module _ (T : ℕ → List ℕ → Type 0) where
  abbrev pub IsUpTo : ℕ → List ℕ → Type 0
  IsUpTo b v = (j : ℕ) × (j < b) × T j v

  pub up-to-more : (j : ℕ) (old mid new : List (List ℕ)) → Gains (IsUpTo j) old mid → Gains (T j) mid new
      → Gains (IsUpTo (j + 1)) old new
  up-to-more j old mid new g h = gains-more (IsUpTo j) (T j) (IsUpTo (j + 1)) old mid new g h
      (λ v. (to v, from v))
    where
      to : (v : List ℕ) → IsUpTo (j + 1) v → IsUpTo j v ⊎ T j v
      to v (k, b, e) = go (cases_eq k j)
        where
          go : (k ≡ j) ⊎ (k ≡ j → ⊥) → IsUpTo j v ⊎ T j v
          go (inl z) = inr (subst (λ x. T x v) z e)
          go (inr n) = inl (k, omega (arith, b, n), e)

      from : (v : List ℕ) → IsUpTo j v ⊎ T j v → IsUpTo (j + 1) v
      from v (inl (k, b, e)) = (k, omega (arith, b), e)
      from v (inr e) = (j, omega arith, e)

  pub up-to-same : (j : ℕ) (old mid : List (List ℕ)) → ((v : List ℕ) → T j v → ⊥) → Gains (IsUpTo j) old mid
      → Gains (IsUpTo (j + 1)) old mid
  up-to-same j old mid n g = up-to-more j old mid mid g (gains-none (T j) mid n)

-- no row of a generator with one before it is critical
pub none-before : (q : ℕ) (ds : List ℕ) (tables : List Table) (width : ℕ) (forms : List MatrixValue) (i : ℕ)
    (rows : List (List ℕ)) → Gains (IsUpTo (IsRowOf q ds tables width forms i) i) rows rows
none-before q ds tables width forms i rows = gains-none (IsUpTo (IsRowOf q ds tables width forms i) i) rows
    (λ v x. before x.0 x.1 x.2.0)
  where
    before : (j : ℕ) → j < i → IsFirst q ds i j → ⊥
    before j l (inl a) = omega (arith, l, a)
    before j l (inr a) = let e = a.0 in omega (arith, l, e)

-- The products with a generator as rows, from its forms or, for a new generator, its own row.
use Rattle.std.proofs.Common.{◌≡◌, ℕ, zero, suc, ◌-◌, ◌<◌, ◌≤◌, true, List, [], ◌∷◌, ◌++◌, length, map}
use Rattle.std.proofs.Common.{replicate, All, arith, ap, sym, subst, ◌∙◌, refl}
use Rattle.std.specs.Prelude.{slice_index_or}
use Rattle.std.proofs.lemmas.List.Elements.{All-from_get_or, All-get_or}
use Rattle.limits.specs.declared.TheConstants.{GREATEST_DEGREE}
use Rattle.fp_rows.specs.Values.{MatrixValue}
use Rattle.linear_algebra.specs.Rows.{row}
use Rattle.graded_polynomials.specs.Monomials.{IsMonomial, fits, joined}
use Rattle.graded_polynomials.specs.Texts.{power}
use Rattle.graded_algebra.proofs.Ideals.{degree-nil}
use Rattle.gc_poly.specs.Generators.{Generators, greatest, AreOrdered}
use Rattle.presentation_rows.specs.RowPolynomials.{row_of}
use Rattle.ring_completion.specs.Candidates.{AreSome, IsListed}
use Rattle.ring_completion.specs.Completions.{generator_times}
use Rattle.ring_completion.proofs.Factors.{joined-right}
use Rattle.ring_degree.specs.Finishing.{AreFormsBelow, HasNewGenerators, IsProductForm}
use Rattle.ring_degree.specs.Products.{IsProductWith}
use Rattle.ring_degree.specs.Tables.{at_generator, rows_at}
use Rattle.ring_degree.specs.declared.table.Table.{Table}
use Rattle.ring_degree.proofs.Lookups.{rows-are}

-- the monomials of degree 0
pub one-some : (q : ℕ) (ds : List ℕ) → AreSome q ds 0 ([] ∷ [])
one-some q ds = record {
  each = each;
  descending = λ i j l b. absurd (omega (arith, l, b));
}
  where
    fits-one : (ds : List ℕ) → fits q ds [] ≡ true
    fits-one [] = refl
    fits-one (d ∷ ds) = refl

    each : (i : ℕ) → i < 1 → IsMonomial q ds 0 (slice_index_or ([] ∷ []) i [])
    each zero l = record { within = tt; trimmed = tt; fitting = fits-one ds; degree_is = degree-nil ds }
    each (suc i) l = absurd (omega (arith, l))

-- a product of a new generator is on the list
pub new-listed : (g : Generators) (d : ℕ) (left : List (List ℕ)) (i : ℕ) (m : List ℕ)
    → HasNewGenerators g d left → i < length g.degrees → d ≤ at_generator g.degrees i
    → IsProductWith (greatest g) g.degrees i ([] ∷ []) m → IsListed left m
new-listed g d left i m new l b P = subst (IsListed left)
    (sym (P.product ∙ ap (joined (power i 1)) (sym P.listed.2 ∙ only P.listed.0) ∙ joined-right (power i 1)))
    (new i l b)
  where
    only : (k : ℕ) → ◌≡◌ {A = List ℕ} (slice_index_or ([] ∷ []) k []) []
    only zero = refl
    only (suc k) = refl

module _ (g : Generators) (tables : List Table) (forms : List MatrixValue) (left : List (List ℕ))
    (width i : ℕ) (l : i < length g.degrees) (m : MatrixValue) (width-is : m.width ≡ length left) where
  -- the forms r with zeros behind
  pub form-old : AreFormsBelow g tables width forms → at_generator g.degrees i < length tables
      → (r : MatrixValue) → r ≡ slice_index_or forms i r → m.p ≡ r.p
      → m.rows ≡ map (λ v. v ++ replicate (length left - r.width) 0) r.rows
      → ((k : ℕ) → k < length r.rows → length (row r.rows k) ≡ r.width)
      → IsProductForm g tables forms left width i m
  form-old F b r e p rs ls = record {
    prime = p ∙ ap (λ (x : MatrixValue). x.p) e ∙ F.primes i r l b;
    width_is = width-is;
    old = λ c. rs ∙ ap (λ k. map (λ v. v ++ replicate (length left - k) 0) r.rows) wide
        ∙ ap (map (λ v. v ++ replicate (length left - width) 0)) (sym rows);
    lengths = λ c k h. ap (λ vs. length (row vs k)) rows
        ∙ ls k (let z = ap (λ (vs : List (List ℕ)). length vs) rows in omega (arith, z, h)) ∙ wide;
    new = λ c. absurd (omega (arith, b, c));
  }
    where
      wide : r.width ≡ width
      wide = ap (λ (x : MatrixValue). x.width) e ∙ F.widths i r l b

      rows : rows_at forms i ≡ r.rows
      rows = rows-are forms i r (F.count i l b) ∙ ap (λ (x : MatrixValue). x.rows) (sym e)

  -- the row of a new generator
  pub form-new : length tables ≤ at_generator g.degrees i → (ss : List (List ℕ)) → ss ≡ [] ∷ []
      → m.p ≡ g.prime
      → m.rows ≡ map (λ s. row_of (greatest g) left (generator_times (greatest g) g.degrees i s)) ss
      → IsProductForm g tables forms left width i m
  form-new b ss one p rs = record {
    prime = p;
    width_is = width-is;
    old = λ c. absurd (omega (arith, b, c));
    lengths = λ c. absurd (omega (arith, b, c));
    new = λ c. rs ∙ ap (map (λ s. row_of (greatest g) left (generator_times (greatest g) g.degrees i s))) one;
  }

-- the matrices of all generators
module _ (g : Generators) (tables : List Table) (forms : List MatrixValue) (left : List (List ℕ))
    (width n : ℕ) (wide : List MatrixValue) (count : length wide ≡ n)
    (each : (i : ℕ) (m : MatrixValue) → i < n
    → IsProductForm g tables forms left width i (slice_index_or wide i m)) where
  none : MatrixValue
  none = record { p = 0; width = 0; rows = [] }

  pub all-primes : (p : ℕ) → p ≡ g.prime → All (λ (m : MatrixValue). m.p ≡ p) wide
  all-primes p e = All-from_get_or (λ (m : MatrixValue). m.p ≡ p) wide none
      (λ i l. (each i none (omega (arith, l, count))).prime ∙ sym e)

  pub all-widths : (w : ℕ) → w ≡ length left → All (λ (m : MatrixValue). m.width ≡ w) wide
  all-widths w e = All-from_get_or (λ (m : MatrixValue). m.width ≡ w) wide none
      (λ i l. (each i none (omega (arith, l, count))).width_is ∙ sym e)

pub positive-generators : (ds : List ℕ) → AreOrdered ds → (i : ℕ) → i < length ds → 1 ≤ at_generator ds i
positive-generators ds o i l = (All-get_or (λ d. (1 ≤ d) × (d ≤ GREATEST_DEGREE)) ds i 0 l o.range).0

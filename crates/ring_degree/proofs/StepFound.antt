-- What the body has found of the next degree.
use Rattle.std.proofs.Common.{◌≡◌, ℕ, suc, ◌-◌, ◌<◌, ◌≤◌, ◌↔◌, List, [], All, length, get_or, map, arith, ap}
use Rattle.std.proofs.Common.{sym, subst, ◌∙◌, refl}
use Rattle.std.proofs.lemmas.List.Elements.{All-from_get_or, All-get_or}
use Rattle.fp_rows.specs.Values.{MatrixValue}
use Rattle.linear_algebra.specs.Rows.{row, IsEchelonOf, IsMatrix}
use Rattle.std.specs.Prelude.{slice_index_or}
use Rattle.graded_polynomials.specs.Monomials.{IsMonomial}
use Rattle.graded_polynomials.specs.Polynomials.{Polynomial}
use Rattle.graded_polynomials.specs.Texts.{power}
use Rattle.graded_polynomials.proofs.Monomials.{monomial-joined}
use Rattle.graded_algebra.specs.Algebras.{Generator, degrees}
use Rattle.graded_algebra.specs.Vectors.{Vector, GradedAlgebra}
use Rattle.presentation_rows.specs.RowPolynomials.{row_of}
use Rattle.limits.specs.declared.TheConstants.{GREATEST_DEGREE}
use Rattle.gc_poly.specs.Generators.{Generators, greatest, AreOrdered}
use Rattle.ring_completion.specs.Candidates.{AreSome, IsListed}
use Rattle.ring_completion.specs.Completions.{degree_of, generator_times}
use Rattle.ring_completion.specs.Left.{without_pivots}
use Rattle.ring_degree.specs.Critical.{IsCriticalRow}
use Rattle.ring_completion.proofs.ListedCandidates.{generator-at}
use Rattle.ring_completion.proofs.Listings.{degree-power}
use Rattle.ring_degree.specs.Products.{IsProductIn, AreProductsIn}
use Rattle.ring_degree.specs.Rests.{AreRests, AreCandidatesIn}
use Rattle.ring_degree.specs.Steps.{IsRingBelow, IsStep}
use Rattle.ring_degree.specs.Tables.{at_generator, standard_at, product_rows, rows_at, AreMatrices, AreTables}
use Rattle.ring_degree.specs.declared.step.Step.{Step}
use Rattle.ring_degree.specs.declared.table.Table.{Table}
use Rattle.ring_degree.proofs.LeftSome.{some-left}
use Rattle.ring_degree.proofs.Lookups.{generator-below, rows-are}
use Rattle.ring_degree.proofs.StepMeaning.{are-step}

-- products, forms, critical rows and their echelon list, and what is left
pub record IsFound (q : ℕ) (ds : List ℕ) (tables : List Table) (ms : List (List ℕ)) (F : List MatrixValue)
    (rows E : List (List ℕ)) (x : Step) : Type 0 where
  pub low : (i : ℕ) → i < length ds → (1 ≤ at_generator ds i) × (at_generator ds i < length tables)
  pub products : AreProductsIn q ds tables (length tables) ms
  pub forms : (i : ℕ) → i < length ds → rows_at F i ≡ map (λ s. row_of q ms (generator_times q ds i s))
      (standard_at tables (length tables - at_generator ds i))
  pub some : (e : ℕ) → e < length tables → AreSome q ds e (standard_at tables e)
  pub widths : (e j k : ℕ) → e < length tables → j < length ds → at_generator ds j ≤ e
      → k < length (standard_at tables (e - at_generator ds j))
      → length (row (product_rows tables e j) k) ≡ length (standard_at tables e)
  pub critical : (v : List ℕ) → IsListed rows v ↔ IsCriticalRow q ds tables (length ms) F v
  pub echelon : IsEchelonOf (suc q) (length ms) rows E
  pub left : x.left ≡ without_pivots E 0 ms
  pub rests : (i : ℕ) → i < length ds → AreRests (suc q) E (rows_at F i) (rows_at x.forms.items i)
  pub candidates : AreCandidatesIn ds tables ms x.candidates

found-below : (q n : ℕ) (G : GradedAlgebra q) (gs : List (Generator (Vector q))) (rs : List Polynomial)
    (tables : List Table) (ms : List (List ℕ)) (F : List MatrixValue) (rows E : List (List ℕ)) (x : Step)
    → IsFound q (degrees gs) tables ms F rows E x → IsRingBelow q G gs rs n tables
    → IsStep q G gs rs n tables x
found-below q n G gs rs tables ms F rows E x X B =
    are-step q n G gs rs tables B low ms P F
    (λ i l. X.forms i l ∙ ap (λ a. map (λ s. row_of q ms (generator_times q (degrees gs) i s))
    (standard_at tables (a - at_generator (degrees gs) i))) B.tables_are.count)
    (λ e l. X.some e (omega (arith, l, B.tables_are.count)))
    (λ e j k l. X.widths e j k (omega (arith, l, B.tables_are.count)))
    rows E X.critical X.echelon x X.left X.rests X.candidates
  where
    low : (i : ℕ) → i < length (degrees gs) → (1 ≤ at_generator (degrees gs) i)
        × (at_generator (degrees gs) i ≤ n)
    low i l = let b = X.low i l in (b.0, omega (arith, b.1, B.tables_are.count))

    P : AreProductsIn q (degrees gs) tables (suc n) ms
    P = subst (λ a. AreProductsIn q (degrees gs) tables a ms) B.tables_are.count X.products

-- the same with the degrees by another name
pub found-step : (q n : ℕ) (ds : List ℕ) (G : GradedAlgebra q) (gs : List (Generator (Vector q)))
    (rs : List Polynomial) (tables : List Table) (ms : List (List ℕ)) (F : List MatrixValue)
    (rows E : List (List ℕ)) (x : Step) → IsFound q ds tables ms F rows E x → degrees gs ≡ ds
    → IsRingBelow q G gs rs n tables → IsStep q G gs rs n tables x
found-step q n ds G gs rs tables ms F rows E x X e B = found-below q n G gs rs tables ms F rows E x
    (subst (λ ds. IsFound q ds tables ms F rows E x) (sym e) X) B

-- the degrees of the generators are from 1 to below d
pub low-of : (ds : List ℕ) (d : ℕ) → AreOrdered ds → All (λ e. e < d) ds → (i : ℕ) → i < length ds
    → (1 ≤ at_generator ds i) × (at_generator ds i < d)
low-of ds d o b i l = (
  (All-get_or (λ e. (1 ≤ e) × (e ≤ GREATEST_DEGREE)) ds i 0 l o.range).0,
  generator-below ds d i b l,
)

-- the length of a product's row
pub product-width : (g : Generators) (tables : List Table) → AreTables g tables → (e j k : ℕ)
    → e < length tables → j < length g.degrees → at_generator g.degrees j ≤ e
    → k < length (standard_at tables (e - at_generator g.degrees j))
    → length (row (product_rows tables e j) k) ≡ length (standard_at tables e)
product-width g tables T e j k l jl b kl = let M = T.products e l in let c = M.counts j jl b in
    (M.rows j jl b k (omega (arith, kl, c))).length_is

module _ (g : Generators) (tables : List Table) (width : ℕ) (F : List MatrixValue)
    (n : length F ≡ length g.degrees) (below : All (λ e. e < length tables) g.degrees)
    (A : AreMatrices g tables (length tables) width F) where
  none : MatrixValue
  none = record { p = 0; width = 0; rows = [] }

  below-at : (i : ℕ) → i < length g.degrees → at_generator g.degrees i ≤ length tables
  below-at i l = let b = generator-below g.degrees (length tables) i below l in omega (arith, b)

  pub all-primes : (p : ℕ) → p ≡ g.prime → All (λ m. m.p ≡ p) F
  all-primes p e = All-from_get_or (λ (m : MatrixValue). m.p ≡ p) F none
      (λ i l. let b : i < length g.degrees = omega (arith, l, n) in A.primes i none b (below-at i b) ∙ sym e)

  pub all-widths : (w : ℕ) → w ≡ width → All (λ m. m.width ≡ w) F
  all-widths w e = All-from_get_or (λ (m : MatrixValue). m.width ≡ w) F none
      (λ i l. let b : i < length g.degrees = omega (arith, l, n) in A.widths i none b (below-at i b) ∙ sym e)

  pub rests-shape : (p left : ℕ) (E : List (List ℕ)) (H : List MatrixValue) → p ≡ g.prime
      → length H ≡ length F → All (λ m. m.p ≡ p) H → All (λ m. m.width ≡ left) H
      → All (λ m. IsMatrix m.p m.width m.rows) H
      → ((i : ℕ) → i < length F → AreRests p E (rows_at F i) (rows_at H i))
      → AreMatrices g tables (length tables) left H
  rests-shape p left E H e c a b d r = record {
    count = λ i l o. omega (arith, l, c, n);
    primes = λ i m l o. All-get_or (λ (m : MatrixValue). m.p ≡ p) H i m (omega (arith, l, c, n)) a ∙ e;
    widths = λ i m l o. All-get_or (λ (m : MatrixValue). m.width ≡ left) H i m (omega (arith, l, c, n)) b;
    rows = λ i l o. matrix i (omega (arith, l, c, n));
    counts = λ i l o. (r i (omega (arith, l, n))).count ∙ A.counts i l o;
  }
    where
      matrix : (i : ℕ) → i < length H → IsMatrix g.prime left (rows_at H i)
      matrix i l = subst (IsMatrix g.prime left) (sym (rows-are H i none l))
          (subst (λ q. IsMatrix q left (get_or H i none).rows)
          (All-get_or (λ (m : MatrixValue). m.p ≡ p) H i none l a ∙ e)
          (subst (λ w. IsMatrix (get_or H i none).p w (get_or H i none).rows)
          (All-get_or (λ (m : MatrixValue). m.width ≡ left) H i none l b)
          (All-get_or (λ (m : MatrixValue). IsMatrix m.p m.width m.rows) H i none l d)))

-- the products of the tables are monomials of the next degree, and so is what is left of them
module _ (q : ℕ) (ds : List ℕ) (tables : List Table)
    (low : (i : ℕ) → i < length ds → (1 ≤ at_generator ds i) × (at_generator ds i < length tables))
    (some : (e : ℕ) → e < length tables → AreSome q ds e (standard_at tables e))
    (ms : List (List ℕ)) (P : AreProductsIn q ds tables (length tables) ms) where
  product-is : (m : List ℕ) → IsProductIn q ds tables (length tables) m → IsMonomial q ds (length tables) m
  product-is m (i, l, X) = subst (IsMonomial q ds (length tables)) (sym X.product)
      (monomial-joined q ds (degree_of ds i) (length tables - at_generator ds i) (length tables) (power i 1)
      X.factor (generator-at q ds i l)
      (let s = X.listed in subst (IsMonomial q ds (length tables - at_generator ds i)) s.2
      ((some (length tables - at_generator ds i) (let b = low i l in omega (arith, b.0, b.1))).each s.0 s.1))
      (let b = low i l in let d = degree-power ds i l in omega (arith, b.0, b.1, d)) X.fitting)

  pub products-some : AreSome q ds (length tables) ms
  products-some = record {
    each = λ k l. product-is (slice_index_or ms k []) ((P.members (slice_index_or ms k [])).0 (k, l, refl));
    descending = λ i j l b. P.descending i j [] l b;
  }

  pub left-some : (E : List (List ℕ)) → AreSome q ds (length tables) (without_pivots E 0 ms)
  left-some E = some-left q (length tables) ds E ms products-some

-- all that was found, with the prime and the number of products by other names
pub found : (g : Generators) (tables : List Table) (p w : ℕ) (ms : List (List ℕ)) (F : List MatrixValue)
    (rows E : List (List ℕ)) (x : Step) → AreOrdered g.degrees → All (λ e. e < length tables) g.degrees
    → AreTables g tables → p ≡ suc (greatest g) → w ≡ length ms
    → AreProductsIn (greatest g) g.degrees tables (length tables) ms
    → ((i : ℕ) → i < length g.degrees → rows_at F i
    ≡ map (λ s. row_of (greatest g) ms (generator_times (greatest g) g.degrees i s))
    (standard_at tables (length tables - at_generator g.degrees i)))
    → length F ≡ length g.degrees
    → ((v : List ℕ) → IsListed rows v ↔ IsCriticalRow (greatest g) g.degrees tables w F v)
    → IsEchelonOf p w rows E → x.left ≡ without_pivots E 0 ms
    → ((i : ℕ) → i < length F → AreRests p E (rows_at F i) (rows_at x.forms.items i))
    → AreCandidatesIn g.degrees tables ms x.candidates
    → IsFound (greatest g) g.degrees tables ms F rows E x
found g tables p w ms F rows E x o b T pe we P H n K L l R C = record {
  low = low-of g.degrees (length tables) o b;
  products = P;
  forms = H;
  some = T.monomials;
  widths = product-width g tables T;
  critical = subst (λ w. (v : List ℕ) → IsListed rows v
      ↔ IsCriticalRow (greatest g) g.degrees tables w F v) we K;
  echelon = subst (λ w. IsEchelonOf (suc (greatest g)) w rows E) we
      (subst (λ p. IsEchelonOf p w rows E) pe L);
  left = l;
  rests = λ i k. subst (λ p. AreRests p E (rows_at F i) (rows_at x.forms.items i)) pe
      (R i (omega (arith, k, n)));
  candidates = C;
}

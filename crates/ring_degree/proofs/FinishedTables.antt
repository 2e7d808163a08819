-- The table of the next degree as it is found.
use Rattle.std.proofs.Common.{◌≡◌, ℕ, zero, suc, ◌+◌, ◌-◌, ◌<◌, ◌≤◌, ◌⊎◌, inl, inr, List, [], ◌∷◌, ◌++◌}
use Rattle.std.proofs.Common.{length, map, replicate, arith, ap, sym, subst, ◌∙◌}
use Rattle.std.specs.Prelude.{slice_index_or, All}
use Rattle.std.specs.List.{AllByRecursion as Each}
use Rattle.std.proofs.lemmas.Bool.{cases_lt}
use Rattle.std.proofs.lemmas.List.{get_or_append_left, get_or-append-add, length-append, length-map}
use Rattle.std.proofs.lemmas.List.{length_push}
use Rattle.std.proofs.lemmas.List.Elements.{All-get_or}
use Rattle.fp_rows.specs.Values.{MatrixValue}
use Rattle.linear_algebra.specs.Kernels.{IsKernelOf}
use Rattle.linear_algebra.specs.Rows.{row, IsMatrix}
use Rattle.graded_polynomials.specs.Monomials.{IsMonomial}
use Rattle.graded_polynomials.specs.Polynomials.{Polynomial}
use Rattle.graded_algebra.specs.Algebras.{Generator, degrees}
use Rattle.graded_algebra.specs.Vectors.{Vector, GradedAlgebra, algebra}
use Rattle.graded_algebra.proofs.MoreGenerators.{degrees-append}
use Rattle.gc_poly.specs.Generators.{Generators, greatest}
use Rattle.presentation_rows.specs.RowPolynomials.{row_of}
use Rattle.presentation_rows.specs.Values.{AreValues}
use Rattle.ring_completion.specs.Candidates.{AreSome, AreLeft}
use Rattle.ring_completion.specs.Completions.{generator_times}
use Rattle.ring_completion.specs.Left.{without_pivots}
use Rattle.ring_completion.proofs.Stays.{monomial-down}
use Rattle.ring_degree.specs.Finishing.{AreFormsBelow, HasNewGenerators, IsProductForm}
use Rattle.ring_degree.specs.Rests.{AreRests}
use Rattle.ring_degree.specs.Steps.{IsRingBelow, IsStep}
use Rattle.ring_degree.specs.Tables.{AreMatrices, AreTables, AreTablesOf, at_generator, rows_at, standard_at}
use Rattle.ring_degree.specs.Tables.{products_at}
use Rattle.ring_degree.specs.declared.step.Step.{Step}
use Rattle.ring_degree.specs.declared.table.Table.{Table}
use Rattle.ring_degree.proofs.LeftSome.{some-left}
use Rattle.ring_degree.proofs.Lookups.{rows-are}
use Rattle.ring_degree.proofs.AddedTable.{standard-old, standard-new, products-old, products-new}
use Rattle.ring_degree.proofs.TableMeaning.{tables-of}

module _ (g : Generators) (tables : List Table) (n : ℕ) (size : length tables ≡ suc n)
    (forms : List MatrixValue) (width : ℕ) (left kernel : List (List ℕ)) (T : AreTables g tables)
    (F : AreFormsBelow g tables width forms) (one : standard_at tables 0 ≡ [] ∷ [])
    (low : (i : ℕ) → i < length g.degrees → 1 ≤ at_generator g.degrees i)
    (S : AreSome (greatest g) g.degrees (length tables) left) (wider : width ≤ length left)
    (new : HasNewGenerators g (length tables) left)
    (wide : List MatrixValue) (count : length wide ≡ length g.degrees)
    (W : (i : ℕ) (m : MatrixValue) → i < length g.degrees
    → IsProductForm g tables forms left width i (slice_index_or wide i m))
    (t : Table) (standard-is : t.standard ≡ without_pivots kernel 0 left) (p : ℕ) (prime : p ≡ g.prime)
    (number : length t.products.items ≡ length wide)
    (primes : All (λ (m : MatrixValue). m.p ≡ p) t.products.items)
    (widths : All (λ (m : MatrixValue). m.width ≡ length t.standard) t.products.items)
    (matrices : All (λ (m : MatrixValue). IsMatrix m.p m.width m.rows) t.products.items)
    (rests : (i : ℕ) → i < length wide
    → AreRests p kernel (rows_at wide i) (rows_at t.products.items i)) where
  abbrev all : List Table
  all = tables ++ t ∷ []

  none : MatrixValue
  none = record { p = 0; width = 0; rows = [] }

  form : (i : ℕ) → i < length g.degrees → IsProductForm g tables forms left width i
      (slice_index_or wide i none)
  form i l = W i none l

  wide-rows : (i : ℕ) → i < length g.degrees → rows_at wide i ≡ (slice_index_or wide i none).rows
  wide-rows i l = rows-are wide i none (omega (arith, l, count))

  -- the number of products with a generator
  count-rows : (i : ℕ) → i < length g.degrees
      → length (rows_at wide i) ≡ length (standard_at tables (length tables - at_generator g.degrees i))
  count-rows i l = ap length (wide-rows i l) ∙ go (cases_lt (at_generator g.degrees i) (length tables))
    where
      go : (at_generator g.degrees i < length tables) ⊎ (length tables ≤ at_generator g.degrees i)
          → length (slice_index_or wide i none).rows
          ≡ length (standard_at tables (length tables - at_generator g.degrees i))
      go (inl b) = ap length ((form i l).old b)
          ∙ length-map (rows_at forms i) (λ v. v ++ replicate (length left - width) 0) ∙ F.counts i l b
      go (inr b) = ap length ((form i l).new b)
          ∙ sym (ap (λ e. length (standard_at tables e))
          (let z : length tables - at_generator g.degrees i ≡ 0 = omega (arith, b) in z)
          ∙ ap length one)

  pub are-tables : AreTables g (tables ++ t ∷ [])
  are-tables = record {
    monomials = λ e l. monomials e l (cases_lt e (length tables));
    products = λ e l. products e l (cases_lt e (length tables));
  }
    where
      last : (e : ℕ) → e < length (tables ++ t ∷ []) → length tables ≤ e → length tables ≡ e
      last e l b = let c = length_push tables t in omega (arith, c, l, b)

      old : (e : ℕ) → e < length tables → standard_at all e ≡ standard_at tables e
      old e b = standard-old tables t n size e (omega (arith, b, size))

      new-is : standard_at all (length tables) ≡ t.standard
      new-is = ap (standard_at all) size ∙ standard-new tables t n size

      monomials : (e : ℕ) → e < length all → (e < length tables) ⊎ (length tables ≤ e)
          → AreSome (greatest g) g.degrees e (standard_at all e)
      monomials e l (inl b) = subst (AreSome (greatest g) g.degrees e) (sym (old e b)) (T.monomials e b)
      monomials e l (inr b) =
          subst (λ e. AreSome (greatest g) g.degrees e (standard_at all e)) (last e l b)
          (subst (AreSome (greatest g) g.degrees (length tables)) (sym (new-is ∙ standard-is))
          (some-left (greatest g) (length tables) g.degrees kernel left S))

      products : (e : ℕ) → e < length all → (e < length tables) ⊎ (length tables ≤ e)
          → AreMatrices g all e (length (standard_at all e)) (products_at all e)
      products e l (inl b) =
          subst (AreMatrices g all e (length (standard_at all e)))
          (sym (products-old tables t n size e (omega (arith, b, size))))
          (subst (λ ss. AreMatrices g all e (length ss) (products_at tables e)) (sym (old e b)) (record {
            count = (T.products e b).count;
            primes = (T.products e b).primes;
            widths = (T.products e b).widths;
            rows = (T.products e b).rows;
            counts = λ i k h. (T.products e b).counts i k h
                ∙ ap length (sym (old (e - at_generator g.degrees i) (omega (arith, b))));
          }))
      products e l (inr b) =
          subst (λ e. AreMatrices g all e (length (standard_at all e)) (products_at all e)) (last e l b)
          (subst (AreMatrices g all (length tables) (length (standard_at all (length tables))))
          (sym (ap (products_at all) size ∙ products-new tables t n size))
          (subst (λ ss. AreMatrices g all (length tables) (length ss) t.products.items) (sym new-is) (record {
            count = λ i k h. omega (arith, k, count, number);
            primes = λ i m k h. prime-at i m (omega (arith, k, count, number)) ∙ prime;
            widths = λ i m k h. width-at i m (omega (arith, k, count, number));
            rows = λ i k h. matrix i (omega (arith, k, count, number));
            counts = λ i k h. (rests i (omega (arith, k, count))).count ∙ count-rows i k
                ∙ ap length (sym (counted i k));
          })))
        where
          counted : (i : ℕ) → i < length g.degrees
              → standard_at all (length tables - at_generator g.degrees i)
              ≡ standard_at tables (length tables - at_generator g.degrees i)
          counted i k = old (length tables - at_generator g.degrees i)
              (let z = low i k in omega (arith, z, size))

          prime-at : (i : ℕ) (m : MatrixValue) → i < length t.products.items
              → (slice_index_or t.products.items i m).p ≡ p
          prime-at i m k = All-get_or (λ (m : MatrixValue). m.p ≡ p) t.products.items i m k primes

          width-at : (i : ℕ) (m : MatrixValue) → i < length t.products.items
              → (slice_index_or t.products.items i m).width ≡ length t.standard
          width-at i m k = All-get_or (λ (m : MatrixValue). m.width ≡ length t.standard)
              t.products.items i m k
              widths

          matrix : (i : ℕ) → i < length t.products.items
              → IsMatrix g.prime (length t.standard) (rows_at t.products.items i)
          matrix i k = subst (λ p. IsMatrix p (length t.standard) (rows_at t.products.items i))
              (prime-at i none k ∙ prime)
              (subst (λ w. IsMatrix (slice_index_or t.products.items i none).p w (rows_at t.products.items i))
              (width-at i none k)
              (subst (IsMatrix (slice_index_or t.products.items i none).p
              (slice_index_or t.products.items i none).width) (sym (rows-are t.products.items i none k))
              (All-get_or (λ (m : MatrixValue). IsMatrix m.p m.width m.rows) t.products.items i none k
              matrices)))

  -- the table is that of any algebra with these tables, forms, values and kernel
  pub are-tables-of : (G : GradedAlgebra (greatest g)) (gs later : List (Generator (Vector (greatest g))))
      (rs : List Polynomial) (x : Step) (extra values : List (List ℕ)) → suc (greatest g) ≡ g.prime
      → degrees (gs ++ later) ≡ g.degrees → Each (λ e. e < length tables) (degrees gs)
      → Each (λ e. e ≡ length tables) (degrees later)
      → x.forms.items ≡ forms → length x.left ≡ width → left ≡ x.left ++ extra
      → IsRingBelow (greatest g) G gs rs (length tables - 1) tables
      → IsStep (greatest g) G gs rs (length tables - 1) tables x
      → AreLeft (greatest g) (algebra (greatest g) G) (gs ++ later) rs (length tables) left
      → AreValues (greatest g) (algebra (greatest g) G) (gs ++ later) left values
      → IsKernelOf (suc (greatest g)) values kernel
      → AreTablesOf (greatest g) G (gs ++ later) (length tables) (tables ++ t ∷ [])
  are-tables-of G gs later rs x extra values pe de before here ef el em B' S' L' V K =
      subst (λ k. AreTablesOf q G (gs ++ later) k all) (sym size)
      (tables-of q n G gs later rs tables B here' x X left extra values kernel em L V K
      (λ e b. down e b (T.monomials e (omega (arith, b, size)))) (length left - width) wide t standard-is
      (λ i k b c. ap (λ (fs : List MatrixValue). length (row (rows_at fs i) k)) ef
      ∙ (form i (more i b)).lengths (under i b) k
      (subst (λ (fs : List MatrixValue). k < length (rows_at fs i)) ef c) ∙ sym el)
      (omega (arith, el, wider))
      (λ i b. subst (λ (fs : List MatrixValue). length (rows_at fs i)
      ≡ length (standard_at tables (suc n - at_generator (degrees gs) i))) (sym ef)
      (F.counts i (more i b) (under i b)
      ∙ ap (λ k. length (standard_at tables (k - at_generator g.degrees i))) size
      ∙ ap (λ k. length (standard_at tables (suc n - k))) (same i b)))
      (λ i b. wide-rows i (more i b) ∙ (form i (more i b)).old (under i b)
      ∙ ap (λ (fs : List MatrixValue). map (λ v. v ++ replicate (length left - width) 0) (rows_at fs i))
      (sym ef))
      (λ i b c. (
        wide-rows i (inside i c) ∙ (form i (inside i c)).new (over i b c)
            ∙ ap (λ ds. row_of q left (generator_times q ds i []) ∷ []) (sym de),
        new i (inside i c) (over i b c),
      ))
      (λ i c. subst (λ p. AreRests p kernel (rows_at wide i) (rows_at t.products.items i)) (prime ∙ sym pe)
      (rests i (let z = inside i c in omega (arith, z, count)))))
    where
      q : ℕ
      q = greatest g

      at-n : length tables - 1 ≡ n
      at-n = omega (arith, size)

      B : IsRingBelow (greatest g) G gs rs n tables
      B = subst (λ k. IsRingBelow (greatest g) G gs rs k tables) at-n B'

      X : IsStep (greatest g) G gs rs n tables x
      X = subst (λ k. IsStep (greatest g) G gs rs k tables x) at-n S'

      L : AreLeft (greatest g) (algebra (greatest g) G) (gs ++ later) rs (suc n) left
      L = subst (λ k. AreLeft (greatest g) (algebra (greatest g) G) (gs ++ later) rs k left) size L'

      here' : Each (λ e. e ≡ suc n) (degrees later)
      here' = go (degrees later) here
        where
          go : (es : List ℕ) → Each (λ e. e ≡ length tables) es → Each (λ e. e ≡ suc n) es
          go [] h = tt
          go (e ∷ es) h = (h.0 ∙ size, go es h.1)

      above : Each (λ e. n < e) (degrees later)
      above = go (degrees later) here'
        where
          go : (es : List ℕ) → Each (λ e. e ≡ suc n) es → Each (λ e. n < e) es
          go [] h = tt
          go (e ∷ es) h = ((let z = h.0 in omega (arith, z)), go es h.1)

      parts : g.degrees ≡ degrees gs ++ degrees later
      parts = sym de ∙ degrees-append gs later

      lengths : length g.degrees ≡ length (degrees gs) + length (degrees later)
      lengths = ap (λ (ds : List ℕ). length ds) parts ∙ length-append (degrees gs) (degrees later)

      more : (i : ℕ) → i < length (degrees gs) → i < length g.degrees
      more i b = let l = lengths in omega (arith, l, b)

      inside : (i : ℕ) → i < length (degrees (gs ++ later)) → i < length g.degrees
      inside i c = let l = ap (λ (ds : List ℕ). length ds) de in omega (arith, l, c)

      same : (i : ℕ) → i < length (degrees gs) → at_generator g.degrees i ≡ at_generator (degrees gs) i
      same i b = ap (λ ds. at_generator ds i) parts ∙ get_or_append_left (degrees gs) (degrees later) 0 i b

      member : (P : ℕ → Type 0) (es : List ℕ) (k : ℕ) → Each P es → k < length es → P (slice_index_or es k 0)
      member P [] k h l = absurd (omega (arith, l))
      member P (e ∷ es) zero h l = h.0
      member P (e ∷ es) (suc k) h l = member P es k h.1 (omega (arith, l))

      under : (i : ℕ) → i < length (degrees gs) → at_generator g.degrees i < length tables
      under i b = let z = same i b in let y = member (λ e. e < length tables) (degrees gs) i before b in
          omega (arith, z, y)

      over : (i : ℕ) → length (degrees gs) ≤ i → i < length (degrees (gs ++ later))
          → length tables ≤ at_generator g.degrees i
      over i b c =
          let k = i - length (degrees gs) in
          let w : i ≡ length (degrees gs) + k = omega (arith, b) in
          let z : at_generator g.degrees i ≡ slice_index_or (degrees later) k 0 =
          ap (λ ds. at_generator ds i) parts ∙ ap (at_generator (degrees gs ++ degrees later)) w
          ∙ get_or-append-add (degrees gs) (degrees later) k 0 in
          let l = lengths in
          let y = member (λ e. e ≡ length tables) (degrees later) k here
          (let m = inside i c in omega (arith, l, m, b)) in
          omega (arith, z, y)

      down : (e : ℕ) → e ≤ n → AreSome q g.degrees e (standard_at tables e)
          → AreSome q (degrees gs) e (standard_at tables e)
      down e b s = record {
        each = λ i l. monomial-down q (algebra q G) gs later n above e b
            (slice_index_or (standard_at tables e) i [])
            (subst (λ ds. IsMonomial q ds e (slice_index_or (standard_at tables e) i [])) (sym de)
            (s.each i l));
        descending = s.descending;
      }

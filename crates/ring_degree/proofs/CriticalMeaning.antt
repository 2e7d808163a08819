-- The rows of exchanges and squares over the products of the tables are critical rows.
use Rattle.std.proofs.Common.{◌≡◌, ℕ, zero, suc, ◌+◌, ◌-◌, ◌*◌, ◌%◌, ◌<◌, ◌≤◌, ◌↔◌, ◌≢◌, List, [], ◌∷◌}
use Rattle.std.proofs.Common.{length, map, true, false, ◌⊎◌, inl, inr, arith, ap, ap₂, sym, subst, ◌∙◌, refl}
use Rattle.std.specs.Prelude.{slice_index_or}
use Rattle.std.specs.List.{AllByRecursion as Each}
use Rattle.std.proofs.lemmas.Bool.{cases_Bool}
use Rattle.fp_rows.specs.Values.{MatrixValue}
use Rattle.linear_algebra.specs.Rows.{entry, row, combination_row, IsInSpan}
use Rattle.linear_algebra.proofs.Congruences.{congruent_mod, congruent_sym, congruent_trans, congruent_eq}
use Rattle.linear_algebra.proofs.Spans.{in_span_row, in_span_congruent}
use Rattle.graded_polynomials.specs.Monomials.{IsMonomial, IsGreater, degree, exponent, fits, is_exterior}
use Rattle.graded_polynomials.specs.Monomials.{joined, same, sign, swaps}
use Rattle.graded_polynomials.specs.Polynomials.{Term, Polynomial, IsOver}
use Rattle.graded_polynomials.specs.Texts.{power}
use Rattle.graded_polynomials.proofs.Monomials.{monomial-joined}
use Rattle.graded_polynomials.proofs.Order.{greater-self}
use Rattle.graded_polynomials.proofs.Terms.{cases-same, same-self}
use Rattle.graded_algebra.specs.Algebras.{Generator, degrees, times}
use Rattle.graded_algebra.specs.Vectors.{Vector, GradedAlgebra, algebra, vectors}
use Rattle.graded_algebra.proofs.Vectors.{times-mod}
use Rattle.graded_algebra.proofs.VectorLemmas.{vector-space}
use Rattle.presentation_rows.specs.RowPolynomials.{polynomial_of, row_of}
use Rattle.presentation_rows.specs.Values.{vector}
use Rattle.presentation_rows.proofs.RowTerms.{row-of-is-row}
use Rattle.ring_completion.specs.Borders.{AreReached}
use Rattle.ring_completion.specs.Candidates.{AreSome, IsListed}
use Rattle.ring_completion.specs.Completions.{degree_of, generator_times, IsGenerator, IsStandardOf}
use Rattle.ring_completion.specs.Eliminations.{AreForms, AreCritical, IsExchange, IsSquare, exchange, form_of}
use Rattle.ring_completion.proofs.FormRows.{form-of-listed}
use Rattle.ring_completion.proofs.ListedCandidates.{generator-at}
use Rattle.ring_completion.proofs.Listings.{degree-power, within-length}
use Rattle.ring_degree.specs.Critical.{form_of_product, exchange_row, IsCriticalRow}
use Rattle.ring_degree.specs.Steps.{IsRingBelow}
use Rattle.ring_degree.specs.Tables.{at_generator, standard_at, rows_at, product_rows, product_in, place_of}
use Rattle.ring_degree.specs.declared.table.Table.{Table}
use Rattle.ring_degree.proofs.CriticalLists.{row-of-one, row-of-two}
use Rattle.ring_degree.proofs.Degrees.{listed}
use Rattle.ring_degree.proofs.FormVectors.{vector-sum, vector-combination, length-combination}

-- a member of a descending list stands at its place
pub place-of-member : (ms : List (List ℕ))
    → ((i j : ℕ) → i < j → j < length ms → IsGreater (slice_index_or ms i []) (slice_index_or ms j []))
    → (k : ℕ) → k < length ms → place_of ms (slice_index_or ms k []) ≡ k
place-of-member [] h k l = absurd (omega (arith, l))
place-of-member (a ∷ ms) h zero l = rw (same-self a) refl
place-of-member (a ∷ ms) h (suc k) l = go (cases-same a (slice_index_or ms k []))
    (place-of-member ms (λ i j m b. h (suc i) (suc j) (omega (arith, m)) (omega (arith, b))) k
    (omega (arith, l)))
  where
    go : ((same a (slice_index_or ms k []) ≡ true) × (a ≡ slice_index_or ms k []))
        ⊎ ((same a (slice_index_or ms k []) ≡ false) × (a ≢ slice_index_or ms k []))
        → place_of ms (slice_index_or ms k []) ≡ k
        → place_of (a ∷ ms) (slice_index_or ms k []) ≡ suc k
    go (inl e) ih = absurd (greater-self a
        (subst (IsGreater a) (sym e.1) (h 0 (suc k) (omega arith) (omega (arith, l)))))
    go (inr e) ih = rw e.0 (ap suc ih)

module _ (q n : ℕ) (G : GradedAlgebra q) (gs : List (Generator (Vector q))) (rs : List Polynomial)
    (tables : List Table) (B : IsRingBelow q G gs rs n tables)
    (low : (i : ℕ) → i < length (degrees gs) → (1 ≤ at_generator (degrees gs) i)
    × (at_generator (degrees gs) i ≤ n))
    (ms : List (List ℕ)) (R : AreReached q (algebra q G) gs (suc n) ms) where
  -- the row of a product
  abbrev pub form : ℕ → List ℕ → List ℕ
  form i s = row_of q ms (generator_times q (degrees gs) i s)

  each-times : (T : Term → Type 0) (i : ℕ) (s : List ℕ)
      → (fits q (degrees gs) (joined (power i 1) s) ≡ true
      → T record {
        scalar = 1 * (sign q (swaps (degrees gs) (power i 1) s) * 1);
        monomial = joined (power i 1) s;
      })
      → Each T (generator_times q (degrees gs) i s)
  each-times T i s h = go (cases_Bool (fits q (degrees gs) (joined (power i 1) s)))
    where
      go : (fits q (degrees gs) (joined (power i 1) s) ≡ true)
          ⊎ (fits q (degrees gs) (joined (power i 1) s) ≡ false)
          → Each T (generator_times q (degrees gs) i s)
      go (inl f) = let t = h f in rw f (t, tt)
      go (inr f) = rw f tt

  module _ (i e : ℕ) (s : List ℕ) (I : IsGenerator q (degrees gs) i)
      (X : IsStandardOf q (algebra q G) gs e s) (d : degree_of (degrees gs) i + e ≡ suc n) where
    product-is : fits q (degrees gs) (joined (power i 1) s) ≡ true
        → IsMonomial q (degrees gs) (suc n) (joined (power i 1) s)
    product-is f = monomial-joined q (degrees gs) (degree_of (degrees gs) i) e (suc n) (power i 1) s I
        X.monomial d f

    product-listed : fits q (degrees gs) (joined (power i 1) s) ≡ true → IsListed ms (joined (power i 1) s)
    product-listed f = R.all (joined (power i 1) s) (product-is f) record {
      generator = i;
      degree = e;
      quotient = s;
      is_quotient = record { monomial = X.monomial; product = refl };
      standard = X.standard;
    }

    pub over-times : IsOver q (degrees gs) (suc n) (generator_times q (degrees gs) i s)
    over-times = each-times (λ t. IsMonomial q (degrees gs) (suc n) t.monomial) i s product-is

    listed-times : Each (λ t. IsListed ms t.monomial) (generator_times q (degrees gs) i s)
    listed-times = each-times (λ t. IsListed ms t.monomial) i s product-listed

  pub are-forms : AreForms q G.mul gs rs (suc n) ms form
  are-forms = record {
    row = λ i e s I X d. row-of-is-row q ms (generator_times q (degrees gs) i s);
    same = λ i e s I X d. form-of-listed q G.mul gs (suc n) rs ms R.some (generator_times q (degrees gs) i s)
        (over-times i e s I X d) (listed-times i e s I X d);
    listed = λ i e s I X d l. refl;
  }

  module _ (F : List MatrixValue)
      (H : (i : ℕ) → i < length (degrees gs) → rows_at F i
      ≡ map (form i) (standard_at tables (suc n - at_generator (degrees gs) i)))
      (some : (e : ℕ) → e ≤ n → AreSome q (degrees gs) e (standard_at tables e))
      (W : (e j k : ℕ) → e ≤ n → j < length (degrees gs) → at_generator (degrees gs) j ≤ e
      → k < length (standard_at tables (e - at_generator (degrees gs) j))
      → length (row (product_rows tables e j) k) ≡ length (standard_at tables e)) where
    abbrev d : ℕ → ℕ
    d i = at_generator (degrees gs) i

    product-at : (j e k : ℕ) → j < length (degrees gs) → e ≤ n → k < length (standard_at tables e)
        → product_in (degrees gs) tables j (slice_index_or (standard_at tables e) k [])
        ≡ polynomial_of (standard_at tables (d j + e)) (row (product_rows tables (d j + e) j) k)
    product-at j e k jl el kl = parts (degree_of (degrees gs) j)
        (degree (degrees gs) (slice_index_or (standard_at tables e) k []))
        (place_of (standard_at tables (degree (degrees gs) (slice_index_or (standard_at tables e) k [])))
        (slice_index_or (standard_at tables e) k []))
        (degree-power (degrees gs) j jl) M.degree_is
        (ap (λ b. place_of (standard_at tables b) (slice_index_or (standard_at tables e) k [])) M.degree_is
        ∙ place-of-member (standard_at tables e) (some e el).descending k kl)
      where
        M : IsMonomial q (degrees gs) e (slice_index_or (standard_at tables e) k [])
        M = (some e el).each k kl

        parts : (a b c : ℕ) → a ≡ d j → b ≡ e → c ≡ k
            → polynomial_of (standard_at tables (a + b)) (row (product_rows tables (a + b) j) c)
            ≡ polynomial_of (standard_at tables (d j + e)) (row (product_rows tables (d j + e) j) k)
        parts a b c x y z = rw (x, y, z) refl

    -- the form of a product as a vector
    form-vector : (i j e k : ℕ) → i < length (degrees gs) → j < length (degrees gs)
        → d i + (d j + e) ≡ suc n → k < length (standard_at tables e)
        → vector q (form_of_product q (degrees gs) tables (length ms) F e i j k)
        ≡ form_of q G.mul gs form i
        (product_in (degrees gs) tables j (slice_index_or (standard_at tables e) k []))
    form-vector i j e k il jl x kl =
        ap (λ rows. vector q (combination_row (suc q) (length ms)
        (entry (row (product_rows tables (d j + e) j) k)) rows))
        (H i il ∙ ap (λ a. map (form i) (standard_at tables a)) (let b = low i il in
        let z : suc n - d i ≡ d j + e = omega (arith, x, b.0) in z))
        ∙ vector-combination q G.mul (length ms) (form i)
        (λ s. (row-of-is-row q ms (generator_times q (degrees gs) i s)).length_is)
        (standard_at tables (d j + e)) (row (product_rows tables (d j + e) j) k)
        (W (d j + e) j k (let b = low i il in omega (arith, x, b.0)) jl (omega arith)
        (subst (λ a. k < length (standard_at tables a)) (let z : e ≡ d j + e - d j = omega arith in z) kl))
        ∙ ap (form_of q G.mul gs form i)
        (sym (product-at j e k jl (let b = low i il in omega (arith, x, b.0)) kl))

    exchange-vector : (i j e k : ℕ) → i < length (degrees gs) → j < length (degrees gs)
        → d i + (d j + e) ≡ suc n → k < length (standard_at tables e)
        → vector q (exchange_row q (degrees gs) tables (length ms) F e i j k)
        ≡ exchange q G.mul gs (product_in (degrees gs) tables) form i j
        (slice_index_or (standard_at tables e) k [])
    exchange-vector i j e k il jl x kl =
        vector-sum q G.mul (q * sign q (d i * d j) % suc q)
        (form_of_product q (degrees gs) tables (length ms) F e i j k)
        (form_of_product q (degrees gs) tables (length ms) F e j i k)
        (length-combination q G.mul (length ms) (entry (row (product_rows tables (d i + e) i) k))
        (rows_at F j)
        ∙ sym (length-combination q G.mul (length ms) (entry (row (product_rows tables (d j + e) j) k))
        (rows_at F i)))
        ∙ ap₂ (λ v w. (vectors q G.mul).add v (times (vectors q G.mul) (q * sign q (d i * d j) % suc q) w))
        (form-vector i j e k il jl x kl) (form-vector j i e k jl il (omega (arith, x)) kl)
        ∙ ap ((vectors q G.mul).add (form_of q G.mul gs form i
        (product_in (degrees gs) tables j (slice_index_or (standard_at tables e) k []))))
        (sym (times-mod q (Vector q) (vectors q G.mul) (vector-space q G.mul) (q * sign q (d i * d j))
        (form_of q G.mul gs form j
        (product_in (degrees gs) tables i (slice_index_or (standard_at tables e) k []))))
        ∙ ap₂ (λ a b. times (vectors q G.mul) (q * sign q (a * b)) (form_of q G.mul gs form j
        (product_in (degrees gs) tables i (slice_index_or (standard_at tables e) k []))))
        (sym (degree-power (degrees gs) i il)) (sym (degree-power (degrees gs) j jl)))

    module _ (rows : List (List ℕ))
        (all : (v : List ℕ) → IsListed rows v
        ↔ IsCriticalRow q (degrees gs) tables (length ms) F v) where
      left-low : (a i b : ℕ) → i < length (degrees gs) → d i + (a + b) ≡ suc n → b ≤ n
      left-low a i b il x = let c = low i il in omega (arith, x, c.0)

      total : {a : ℕ} → a ≡ length tables → a ≡ suc n
      total e = e ∙ B.tables_are.count

      sums : (i j e : ℕ) → i < length (degrees gs) → j < length (degrees gs) → d i + (d j + e) ≡ suc n
          → degree_of (degrees gs) i + (degree_of (degrees gs) j + e) ≡ suc n
      sums i j e il jl x = rw (degree-power (degrees gs) i il, degree-power (degrees gs) j jl) x

      standard-at : (e k : ℕ) → e ≤ n → k < length (standard_at tables e)
          → IsStandardOf q (algebra q G) gs e (slice_index_or (standard_at tables e) k [])
      standard-at e k l b = (listed q n G gs rs tables B e l (slice_index_or (standard_at tables e) k [])).1
          (k, b, refl)

      kind : (v : List ℕ) → IsCriticalRow q (degrees gs) tables (length ms) F v
          → IsExchange q G.mul gs (suc n) (product_in (degrees gs) tables) form (vector q v)
          ⊎ IsSquare q G.mul gs (suc n) (product_in (degrees gs) tables) form (vector q v)
      kind v (i, il, (j, jl, (inr o, x))) = inr record {
        generator = i;
        low = x.low;
        monomial = slice_index_or (standard_at tables x.low) x.place [];
        generator_is = generator-at q (degrees gs) i il;
        exterior = subst (λ a. is_exterior q a ≡ true) (sym (degree-power (degrees gs) i il)) o.1;
        standard = standard-at x.low x.place (left-low (d i) i x.low il (total sum)) x.within;
        clear = x.clear;
        degree_is = sums i i x.low il il (total sum);
        vector_is = ap (vector q) (x.row_is
            ∙ row-of-one q (degrees gs) tables (length ms) F x.low i j x.place o.0
            ∙ ap (λ k. form_of_product q (degrees gs) tables (length ms) F x.low i k x.place) (sym o.0))
            ∙ form-vector i i x.low x.place il il (total sum) x.within;
      }
        where
          sum : d i + (d i + x.low) ≡ length tables
          sum = subst (λ k. d i + (d k + x.low) ≡ length tables) (sym o.0) x.degree_is
      kind v (i, il, (j, jl, (inl l, x))) = inl record {
        first = i;
        second = j;
        low = x.low;
        monomial = slice_index_or (standard_at tables x.low) x.place [];
        ordered = l;
        first_is = generator-at q (degrees gs) i il;
        second_is = generator-at q (degrees gs) j jl;
        standard = standard-at x.low x.place (left-low (d j) i x.low il (total x.degree_is)) x.within;
        clear = x.clear;
        degree_is = sums i j x.low il jl (total x.degree_is);
        vector_is = ap (vector q) (x.row_is
            ∙ row-of-two q (degrees gs) tables (length ms) F x.low i j x.place (λ e. omega (arith, l, e)))
            ∙ exchange-vector i j x.low x.place il jl (total x.degree_is) x.within;
      }

      spanned : (v : Vector q) (r : List ℕ) → IsCriticalRow q (degrees gs) tables (length ms) F r
          → v ≡ vector q r → IsInSpan (suc q) rows (λ j. (v j).0)
      spanned v r c e = in_span_congruent
          (λ j. congruent_trans (congruent_eq (ap (λ x. entry x j) t.2))
          (congruent_trans (congruent_sym (congruent_mod (entry r j)))
          (congruent_eq (ap (λ (w : Vector q). (w j).0) (sym e)))))
          (in_span_row rows t.0 t.1)
        where
          t : IsListed rows r
          t = (all r).1 c

      generator-in : (i : ℕ) → IsGenerator q (degrees gs) i → i < length (degrees gs)
      generator-in i I = within-length (degrees gs) i I.within

      unsums : (i j e : ℕ) → i < length (degrees gs) → j < length (degrees gs)
          → degree_of (degrees gs) i + (degree_of (degrees gs) j + e) ≡ suc n → d i + (d j + e) ≡ suc n
      unsums i j e il jl x = rw (degree-power (degrees gs) i il, degree-power (degrees gs) j jl) at x

      exchange-spanned : (v : Vector q)
          → IsExchange q G.mul gs (suc n) (product_in (degrees gs) tables) form v
          → IsInSpan (suc q) rows (λ j. (v j).0)
      exchange-spanned v X = spanned v
          (exchange_row q (degrees gs) tables (length ms) F X.low X.first X.second s.0) (
            X.first,
            il,
            (
              X.second,
              jl,
              (
                inl X.ordered,
                record {
                  low = X.low;
                  place = s.0;
                  within = s.1;
                  degree_is = x ∙ sym B.tables_are.count;
                  clear = subst (λ (m : List ℕ). (k : ℕ) → k < X.first → exponent m k ≡ 0) (sym s.2) X.clear;
                  row_is = sym (row-of-two q (degrees gs) tables (length ms) F X.low X.first X.second s.0
                      (λ e. let l = X.ordered in omega (arith, l, e)));
                },
              ),
            ),
          )
          (X.vector_is
          ∙ ap (exchange q G.mul gs (product_in (degrees gs) tables) form X.first X.second) (sym s.2)
          ∙ sym (exchange-vector X.first X.second X.low s.0 il jl x s.1))
        where
          il : X.first < length (degrees gs)
          il = generator-in X.first X.first_is

          jl : X.second < length (degrees gs)
          jl = generator-in X.second X.second_is

          x : d X.first + (d X.second + X.low) ≡ suc n
          x = unsums X.first X.second X.low il jl X.degree_is

          s : IsListed (standard_at tables X.low) X.monomial
          s = (listed q n G gs rs tables B X.low (left-low (d X.second) X.first X.low il x) X.monomial).0
              X.standard

      square-spanned : (v : Vector q)
          → IsSquare q G.mul gs (suc n) (product_in (degrees gs) tables) form v
          → IsInSpan (suc q) rows (λ j. (v j).0)
      square-spanned v X = spanned v
          (form_of_product q (degrees gs) tables (length ms) F X.low X.generator X.generator s.0) (
            X.generator,
            il,
            (
              X.generator,
              il,
              (
                inr (
                  refl,
                  subst (λ a. is_exterior q a ≡ true) (degree-power (degrees gs) X.generator il) X.exterior,
                ),
                record {
                  low = X.low;
                  place = s.0;
                  within = s.1;
                  degree_is = x ∙ sym B.tables_are.count;
                  clear = subst (λ (m : List ℕ). (k : ℕ) → k < X.generator → exponent m k ≡ 0) (sym s.2) X.clear;
                  row_is = sym (row-of-one q (degrees gs) tables (length ms) F X.low X.generator X.generator s.0
                      refl);
                },
              ),
            ),
          )
          (X.vector_is
          ∙ ap (λ m. form_of q G.mul gs form X.generator (product_in (degrees gs) tables X.generator m))
          (sym s.2)
          ∙ sym (form-vector X.generator X.generator X.low s.0 il il x s.1))
        where
          il : X.generator < length (degrees gs)
          il = generator-in X.generator X.generator_is

          x : d X.generator + (d X.generator + X.low) ≡ suc n
          x = unsums X.generator X.generator X.low il il X.degree_is

          s : IsListed (standard_at tables X.low) X.monomial
          s = (listed q n G gs rs tables B X.low (left-low (d X.generator) X.generator X.low il x)
              X.monomial).0 X.standard

      pub are-critical : AreCritical q G.mul gs (suc n) (product_in (degrees gs) tables) form rows
      are-critical = record {
        each = λ k l. kind (row rows k) ((all (row rows k)).0 (k, l, refl));
        exchanges = exchange-spanned;
        squares = square-spanned;
      }

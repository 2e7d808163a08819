-- The critical rows stand for consequences, and so a pivot of their echelon list leads in the consequences.
use Rattle.std.proofs.Common.{◌≡◌, ℕ, suc, ◌+◌, ◌-◌, ◌*◌, ◌<◌, List, [], ◌∷◌, ◌++◌, length, true, false, ◌⊎◌}
use Rattle.std.proofs.Common.{inl, inr, arith, ap, ap₂, sym, ◌∙◌, refl}
use Rattle.std.specs.Prelude.{slice_index_or}
use Rattle.std.proofs.Math.Path.{fun_ext}
use Rattle.std.proofs.lemmas.Bool.{cases_Bool}
use Rattle.std.specs.List.{AllByRecursion as Each}
use Rattle.linear_algebra.specs.Modular.{IsCongruent, IsFieldModulo}
use Rattle.linear_algebra.specs.Rows.{combination, IsRow, IsReduced as IsRowReduced, entry, row, pivot}
use Rattle.linear_algebra.specs.Rows.{IsEchelonOf}
use Rattle.linear_algebra.proofs.Congruences.{congruent_refl, congruent_eq, congruent_trans, congruent_sym}
use Rattle.linear_algebra.proofs.Congruences.{congruent_add, congruent_mul_left, congruent_mul_right}
use Rattle.linear_algebra.proofs.Congruences.{to_congruent}
use Rattle.graded_polynomials.specs.Monomials.{IsMonomial, fits, joined, swaps, sign, same}
use Rattle.graded_polynomials.specs.Polynomials.{Term, Polynomial, coefficient, multiple, scaled, IsOver}
use Rattle.graded_polynomials.specs.Polynomials.{IsSame}
use Rattle.graded_polynomials.specs.Texts.{power}
use Rattle.graded_polynomials.proofs.Monomials.{over-multiple}
use Rattle.graded_polynomials.proofs.Terms.{each-append, over-scaled, coefficient-append}
use Rattle.graded_algebra.specs.Algebras.{Generator, degrees, evaluate, times, IsGradedCommutative}
use Rattle.graded_algebra.specs.Presentations.{IsLeading, IsRelations}
use Rattle.graded_algebra.specs.Vectors.{Vector, residue, vectors}
use Rattle.graded_algebra.proofs.Ideals.{multiple-scaled}
use Rattle.graded_algebra.proofs.Values.{linear-append, linear-scaled}
use Rattle.graded_algebra.proofs.Vectors.{add-minus}
use Rattle.graded_algebra.proofs.VectorLemmas.{vector-comm, plus-residue}
use Rattle.presentation_rows.specs.RowPolynomials.{polynomial_of}
use Rattle.presentation_rows.specs.Values.{vector}
use Rattle.ring_completion.specs.Candidates.{AreSome, IsListed}
use Rattle.ring_completion.specs.Completions.{alone, generator_times, degree_of, IsGenerator, IsStandardOf}
use Rattle.ring_completion.specs.Completions.{IsReduced, AreProducts}
use Rattle.ring_completion.specs.Eliminations.{AreForms, form_of, IsExchange, IsSquare, AreCritical}
use Rattle.ring_completion.proofs.Joins.{joined-comm, multiple-assoc}
use Rattle.ring_completion.proofs.Multiples.{multiple-append, multiple-unfit}
use Rattle.ring_completion.proofs.Quotients.{generator-multiple, degree-positive}
use Rattle.ring_completion.proofs.Factors.{swaps-later, swaps-earlier, length-power, square-unfit}
use Rattle.ring_completion.proofs.ListRows.{listed-apart, listed-or-zero, over-list}
use Rattle.presentation_rows.proofs.Leads.{leading-of-row}
use Rattle.ring_completion.proofs.ListVectors.{coefficients-of-row}
use Rattle.ring_completion.proofs.LinearForms.{sign-square}
use Rattle.ring_completion.proofs.Remainders.{residue-same}
use Rattle.ring_completion.proofs.Rests.{T, plus, same-consequence, over-plus, at-plus, IsRest, rest-zero}
use Rattle.ring_completion.proofs.Rests.{rest-plus, rest-same, IsVector, vector-of-rest, vector-sum}
use Rattle.ring_completion.proofs.Rests.{row-consequence, rest-vector, rest-of-row, row-of-rest}

-- c times f, multiplied
pub multiple-of-scaled : (q : ℕ) (ds : List ℕ) (c k : ℕ) (a : List ℕ) (f : List Term) (m : List ℕ)
    → coefficient (multiple q ds c a (scaled k f)) m ≡ k * coefficient (multiple q ds c a f) m
multiple-of-scaled q ds c k a [] m = omega arith
multiple-of-scaled q ds c k a (t ∷ f) m = go (multiple-of-scaled q ds c k a f m)
    (cases_Bool (fits q ds (joined a t.monomial))) (cases_Bool (same (joined a t.monomial) m))
  where
    s : ℕ
    s = sign q (swaps ds a t.monomial)

    go : coefficient (multiple q ds c a (scaled k f)) m ≡ k * coefficient (multiple q ds c a f) m
        → (fits q ds (joined a t.monomial) ≡ true) ⊎ (fits q ds (joined a t.monomial) ≡ false)
        → (same (joined a t.monomial) m ≡ true) ⊎ (same (joined a t.monomial) m ≡ false)
        → coefficient (multiple q ds c a (scaled k (t ∷ f))) m ≡ k * coefficient (multiple q ds c a (t ∷ f)) m
    go ih (inl o) (inl e) = rw (o, e) (omega (arith, ih))
    go ih (inl o) (inr e) = rw (o, e) (omega (arith, ih))
    go ih (inr o) e = rw o ih

-- a term in front of a product
pub multiple-front : (q : ℕ) (ds : List ℕ) (a : List ℕ) (t : Term) (f : List Term)
    → IsSame q (multiple q ds 1 a (t ∷ f))
    (multiple q ds 1 a f ++ scaled t.scalar (multiple q ds 1 a (alone t.monomial)))
multiple-front q ds a t f = record {
  at = λ m. congruent_eq
      (go m (cases_Bool (fits q ds (joined a t.monomial))) (cases_Bool (same (joined a t.monomial) m))
      ∙ sym (coefficient-append (multiple q ds 1 a f)
      (scaled t.scalar (multiple q ds 1 a (alone t.monomial))) m));
}
  where
    go : (m : List ℕ) → (fits q ds (joined a t.monomial) ≡ true) ⊎ (fits q ds (joined a t.monomial) ≡ false)
        → (same (joined a t.monomial) m ≡ true) ⊎ (same (joined a t.monomial) m ≡ false)
        → coefficient (multiple q ds 1 a (t ∷ f)) m ≡ coefficient (multiple q ds 1 a f) m + coefficient
        (scaled t.scalar (multiple q ds 1 a (alone t.monomial))) m
    go m (inl o) (inl e) = rw (o, e) (omega arith)
    go m (inl o) (inr e) = rw (o, e) (omega arith)
    go m (inr o) e = rw o (omega arith)

module _ (q : ℕ) (field : IsFieldModulo (suc q)) (mul : ℕ → ℕ → Vector q → Vector q → Vector q)
    (In : ℕ → Vector q → Type 0)
    (L : IsGradedCommutative q (Vector q) (vectors q mul) In) (gs : List (Generator (Vector q)))
    (positive : Each (λ d. 0 < d) (degrees gs))
    (free : (c : ℕ) → times (vectors q mul) c (vectors q mul).one ≡ (vectors q mul).zero
    → IsCongruent (suc q) c 0)
    (n : ℕ) (rs : List Polynomial) (R : IsRelations q (vectors q mul) gs n rs) (ms : List (List ℕ))
    (C : AreSome q (degrees gs) (suc n) ms) where
  module _ (products : ℕ → List ℕ → List Term) (P : AreProducts q (vectors q mul) gs (suc n) products) where
    abbrev δ : ℕ → ℕ
    δ i = degree_of (degrees gs) i

    abbrev times_x : ℕ → List Term → List Term
    times_x i f = multiple q (degrees gs) 1 (power i 1) f

    over-product : (i e : ℕ) (f : List Term) → IsGenerator q (degrees gs) i → δ i + e ≡ suc n
        → IsOver q (degrees gs) e f → IsOver q (degrees gs) (suc n) (times_x i f)
    over-product i e f I d o = over-multiple q (degrees gs) (δ i) e (suc n) 1 (power i 1) f I o d

    -- x_i times (the sum of standard monomials less x_j s) is a consequence
    pub difference : ℕ → ℕ → List ℕ → List Term
    difference i j s = times_x i (products j s ++ scaled q (generator_times q (degrees gs) j s))

    pub difference-consequence : (i j e : ℕ) (s : List ℕ) → IsGenerator q (degrees gs) i
        → IsGenerator q (degrees gs) j → IsStandardOf q (vectors q mul) gs e s
        → δ i + (δ j + e) ≡ suc n → T q mul gs (suc n) rs ms C (difference i j s)
    unfolding difference
    difference-consequence i j e s I J x d = generator-multiple q (Vector q) (vectors q mul) In L gs field
        positive free n rs R i (δ j + e) _ I d record {
          over = each-append (λ (t : Term). IsMonomial q (degrees gs) (δ j + e) t.monomial) (products j s)
              (scaled q (generator_times q (degrees gs) j s))
              (P.reduced j e s J x low).over
              (over-scaled q (degrees gs) (δ j + e) q (generator_times q (degrees gs) j s)
              (over-multiple q (degrees gs) (δ j) e (δ j + e) 1 (power j 1) (alone s) J
              (x.monomial, tt) refl));
          vanishes = linear-append q (Vector q) (vectors q mul) L.space (evaluate (vectors q mul) gs)
              (products j s) (scaled q (generator_times q (degrees gs) j s))
              ∙ ap₂ (vectors q mul).add (P.value_is j e s J x low)
              (linear-scaled q (Vector q) (vectors q mul) L.space (evaluate (vectors q mul) gs) q
              (generator_times q (degrees gs) j s))
              ∙ add-minus q (Vector q) (vectors q mul) L.space _;
        }
      where
        low : δ j + e < suc n
        low = let p = degree-positive (degrees gs) i positive I.within in omega (arith, p, d)

    pub at-difference : (i j : ℕ) (s m : List ℕ)
        → coefficient (difference i j s) m ≡ coefficient (times_x i (products j s)) m + q * coefficient
        (times_x i (generator_times q (degrees gs) j s)) m
    unfolding difference
    at-difference i j s m = ap (λ f. coefficient f m)
        (multiple-append q (degrees gs) 1 (power i 1) (products j s)
        (scaled q (generator_times q (degrees gs) j s)))
        ∙ coefficient-append (times_x i (products j s))
        (times_x i (scaled q (generator_times q (degrees gs) j s))) m
        ∙ ap (λ z. coefficient (times_x i (products j s)) m + z)
        (multiple-of-scaled q (degrees gs) 1 q (power i 1) (generator_times q (degrees gs) j s) m)

    by-scalar : (c : ℕ) (a : List ℕ) (f : List Term) (m : List ℕ)
        → coefficient (multiple q (degrees gs) c a f) m ≡ c * coefficient (multiple q (degrees gs) 1 a f) m
    by-scalar c a f m = ap (λ c. coefficient (multiple q (degrees gs) c a f) m)
        (let z : c ≡ c * 1 = omega arith in z) ∙ multiple-scaled q (degrees gs) c 1 a f m

    -- x_i x_j s is the sign times x_j x_i s
    pub exchanged : (i j : ℕ) (s m : List ℕ) → i < j
        → IsCongruent (suc q) (coefficient (times_x i (generator_times q (degrees gs) j s)) m)
        (sign q (δ i * δ j) * coefficient (times_x j (generator_times q (degrees gs) i s)) m)
    exchanged i j s m l =
        congruent_trans ((multiple-assoc q (degrees gs) (power i 1) (power j 1) 1 1 (alone s)).at m)
        (congruent_trans
        (congruent_eq
        (by-scalar (1 * (1 * sign q (swaps (degrees gs) (power i 1) (power j 1))))
        (joined (power i 1) (power j 1)) (alone s) m
        ∙ ap₂ (λ k a. (1 * (1 * sign q k)) * coefficient (multiple q (degrees gs) 1 a (alone s)) m)
        (swaps-later (degrees gs) (power i 1) j 1 (let w = length-power i 1 in omega (arith, w, l)))
        (joined-comm (power i 1) (power j 1))))
        (congruent_sym
        (congruent_trans
        (congruent_mul_left c ((multiple-assoc q (degrees gs) (power j 1) (power i 1) 1 1 (alone s)).at m))
        (congruent_trans
        (congruent_eq
        (ap (λ z. c * z)
        (by-scalar (1 * (1 * sign q (swaps (degrees gs) (power j 1) (power i 1))))
        (joined (power j 1) (power i 1)) (alone s) m
        ∙ ap (λ k. (1 * (1 * sign q k)) * z) (swaps-earlier (degrees gs) i j l))
        ∙ (let y : c * ((1 * (1 * c)) * z) ≡ (c * c) * z = omega arith in y)))
        (congruent_trans (congruent_mul_right z (sign-square q (δ i * δ j)))
        (congruent_eq (let y : 1 * z ≡ (1 * (1 * 1)) * z = omega arith in y)))))))
      where
        c : ℕ
        c = sign q (δ i * δ j)

        z : ℕ
        z = coefficient (multiple q (degrees gs) 1 (joined (power j 1) (power i 1)) (alone s)) m

    module _ (forms : ℕ → List ℕ → List ℕ) (F : AreForms q mul gs rs (suc n) ms forms) where
      form-rest : (i e : ℕ) (s : List ℕ) → IsGenerator q (degrees gs) i → δ i + e ≡ suc n
          → IsStandardOf q (vectors q mul) gs e s
          → IsRest q mul gs (suc n) rs ms C (generator_times q (degrees gs) i s) (vector q (forms i s))
      form-rest i e s I d x = record {
        polynomial = polynomial_of ms (forms i s);
        over = over-list C (forms i s);
        clean = λ m M. go m (listed-or-zero C (forms i s) m);
        vector_is = coefficients-of-row q mul ms (listed-apart C) (forms i s) (F.row i e s I x d);
        difference = F.same i e s I x d;
      }
        where
          go : (m : List ℕ) → (coefficient (polynomial_of ms (forms i s)) m ≡ 0) ⊎ IsListed ms m
              → IsListed ms m ⊎ IsCongruent (suc q) (coefficient (polynomial_of ms (forms i s)) m) 0
          go m (inl z) = inr (congruent_eq z)
          go m (inr l) = inl l

      -- generator i times a sum of standard monomials
      product-rest : (i e : ℕ) → IsGenerator q (degrees gs) i → δ i + e ≡ suc n → (g : List Term)
          → IsReduced q (vectors q mul) gs e g
          → IsRest q mul gs (suc n) rs ms C (times_x i g) (form_of q mul gs forms i g)
      product-rest i e I d [] G = rest-zero q mul gs (suc n) rs ms C
      product-rest i e I d (t ∷ g) G =
          rw (vector-comm q mul (times (vectors q mul) t.scalar (vector q (forms i t.monomial)))
          (form_of q mul gs forms i g))
          (rest-same q mul gs (suc n) rs ms C
          (times_x i g ++ scaled t.scalar (generator_times q (degrees gs) i t.monomial)) (times_x i (t ∷ g)) _
          (over-product i e (t ∷ g) I d G.over) (multiple-front q (degrees gs) (power i 1) t g)
          (rest-plus q mul gs (suc n) rs ms C (times_x i g) (generator_times q (degrees gs) i t.monomial)
          (form_of q mul gs forms i g) (vector q (forms i t.monomial)) t.scalar
          (over-product i e g I d G.over.1) (over-product i e (alone t.monomial) I d (G.over.0, tt))
          (product-rest i e I d g record { over = G.over.1; standard = G.standard.1 })
          (form-rest i e t.monomial I d record { monomial = G.over.0; standard = G.standard.0 })))

      exchange-vector : (v : Vector q) → IsExchange q mul gs (suc n) products forms v
          → IsVector q mul gs (suc n) rs ms C v
      exchange-vector v x = rw x.vector_is (vector-of-rest q mul gs (suc n) rs ms C f _ consequence
          (rest-plus q mul gs (suc n) rs ms C (times_x i (products j s)) (times_x j (products i s))
          (form_of q mul gs forms i (products j s)) (form_of q mul gs forms j (products i s)) (q * c)
          over-i over-j (product-rest i (δ j + e) x.first_is x.degree_is (products j s) reduced-j)
          (product-rest j (δ i + e) x.second_is other (products i s) reduced-i)))
        where
          i : ℕ
          i = x.first

          j : ℕ
          j = x.second

          s : List ℕ
          s = x.monomial

          e : ℕ
          e = x.low

          c : ℕ
          c = sign q (δ i * δ j)

          other : δ j + (δ i + e) ≡ suc n
          other = let d = x.degree_is in omega (arith, d)

          reduced-j : IsReduced q (vectors q mul) gs (δ j + e) (products j s)
          reduced-j = P.reduced j e s x.second_is x.standard
              (let p = degree-positive (degrees gs) i positive x.first_is.within in let d = x.degree_is in
              omega (arith, p, d))

          reduced-i : IsReduced q (vectors q mul) gs (δ i + e) (products i s)
          reduced-i = P.reduced i e s x.first_is x.standard
              (let p = degree-positive (degrees gs) j positive x.second_is.within in let d = x.degree_is in
              omega (arith, p, d))

          over-i : IsOver q (degrees gs) (suc n) (times_x i (products j s))
          over-i = over-product i (δ j + e) (products j s) x.first_is x.degree_is reduced-j.over

          over-j : IsOver q (degrees gs) (suc n) (times_x j (products i s))
          over-j = over-product j (δ i + e) (products i s) x.second_is other reduced-i.over

          f : List Term
          f = times_x i (products j s) ++ scaled (q * c) (times_x j (products i s))

          cancels : (X Y a b : ℕ) → IsCongruent (suc q) a (c * b)
              → IsCongruent (suc q) (X + (q * c) * Y) ((X + q * a) + (q * c) * (Y + q * b))
          cancels X Y a b h = congruent_sym
              (congruent_trans
              (congruent_add (congruent_add (congruent_refl X) (congruent_mul_left q h))
              (congruent_refl ((q * c) * (Y + q * b))))
              (to_congruent 0 (q * (c * b)) (omega arith)))

          consequence : T q mul gs (suc n) rs ms C f
          consequence = same-consequence q mul gs (suc n) rs ms C
              (difference i j s ++ scaled (q * c) (difference j i s)) f
              (over-plus q mul gs (suc n) rs ms C (times_x i (products j s)) (times_x j (products i s))
              (q * c) over-i over-j)
              (record {
                at = λ m. congruent_trans
                    (congruent_eq
                    (at-plus q mul gs (suc n) rs ms C (times_x i (products j s)) (times_x j (products i s))
                    (q * c) m))
                    (congruent_trans (cancels _ _ _ _ (exchanged i j s m x.ordered))
                    (congruent_eq
                    (sym (at-plus q mul gs (suc n) rs ms C (difference i j s) (difference j i s) (q * c) m
                    ∙ ap₂ (λ a b. a + (q * c) * b) (at-difference i j s m) (at-difference j i s m)))));
              })
              (plus q mul gs (suc n) rs ms C (difference i j s) (difference j i s) (q * c)
              (difference-consequence i j e s x.first_is x.second_is x.standard x.degree_is)
              (difference-consequence j i e s x.second_is x.first_is x.standard other))

      square-vector : (v : Vector q) → IsSquare q mul gs (suc n) products forms v
          → IsVector q mul gs (suc n) rs ms C v
      square-vector v x = rw x.vector_is
          (vector-of-rest q mul gs (suc n) rs ms C (times_x i (products i s)) _ consequence
          (product-rest i (δ i + e) x.generator_is x.degree_is (products i s) reduced))
        where
          i : ℕ
          i = x.generator

          s : List ℕ
          s = x.monomial

          e : ℕ
          e = x.low

          reduced : IsReduced q (vectors q mul) gs (δ i + e) (products i s)
          reduced = P.reduced i e s x.generator_is x.standard
              (let p = degree-positive (degrees gs) i positive x.generator_is.within in let d = x.degree_is in
              omega (arith, p, d))

          twice : (m : List ℕ)
              → IsCongruent (suc q) (coefficient (times_x i (generator_times q (degrees gs) i s)) m) 0
          twice m = congruent_trans
              ((multiple-assoc q (degrees gs) (power i 1) (power i 1) 1 1 (alone s)).at m)
              (congruent_eq
              (ap (λ f. coefficient f m)
              (multiple-unfit q (degrees gs) _ (joined (power i 1) (power i 1)) (alone s)
              (square-unfit q (degrees gs) i x.generator_is x.exterior))))

          consequence : T q mul gs (suc n) rs ms C (times_x i (products i s))
          consequence = same-consequence q mul gs (suc n) rs ms C (difference i i s)
              (times_x i (products i s))
              (over-product i (δ i + e) (products i s) x.generator_is x.degree_is reduced.over)
              (record {
                at = λ m. congruent_sym (congruent_trans (congruent_eq (at-difference i i s m))
                    (congruent_trans (congruent_add (congruent_refl _) (congruent_mul_left q (twice m)))
                    (congruent_eq (omega arith))));
              })
              (difference-consequence i i e s x.generator_is x.generator_is x.standard x.degree_is)

      module _ (rows E : List (List ℕ)) (K : AreCritical q mul gs (suc n) products forms rows)
          (e : IsEchelonOf (suc q) (length ms) rows E) where
        critical-vector : (k : ℕ) → k < length rows
            → IsVector q mul gs (suc n) rs ms C (vector q (row rows k))
        critical-vector k l = go (K.each k l)
          where
            go : IsExchange q mul gs (suc n) products forms (vector q (row rows k))
                ⊎ IsSquare q mul gs (suc n) products forms (vector q (row rows k))
                → IsVector q mul gs (suc n) rs ms C (vector q (row rows k))
            go (inl x) = exchange-vector _ x
            go (inr x) = square-vector _ x

        echelon-vector : (i : ℕ) → i < length E → IsVector q mul gs (suc n) rs ms C (vector q (row E i))
        echelon-vector i l = let s = e.spanned i l in
            rw (sym (fun_ext (λ j. residue-same q (s.1.each j))))
            (vector-sum q mul gs (suc n) rs ms C rows critical-vector s.0 (length rows) (omega arith))

        pub leading-if-pivot : (i k : ℕ) → i < length E → pivot (row E i) ≡ k → k < length ms
            → IsLeading q (vectors q mul) (T q mul gs (suc n) rs ms C) (slice_index_or ms k [])
        leading-if-pivot i k l p b = leading-of-row q ms C.descending field.above_one (vectors q mul)
            (T q mul gs (suc n) rs ms C) E e.echelon i k l p b
            (row-consequence q mul gs (suc n) rs ms C (row E i) (echelon-vector i l))

        -- a form reduced by the echelon list is a form
        pub reduced-form : (f : List Term) (r w : List ℕ) → IsOver q (degrees gs) (suc n) f
            → IsRow (suc q) (length ms) r → T q mul gs (suc n) rs ms C (f ++ scaled q (polynomial_of ms r))
            → IsRowReduced (suc q) E r w → T q mul gs (suc n) rs ms C (f ++ scaled q (polynomial_of ms w))
        reduced-form f r w o x t D = row-of-rest q mul gs (suc n) rs ms C f w o
            (rw same (rest-vector q mul gs (suc n) rs ms C f (vector q r)
            (λ j. residue q (combination D.difference.0 E j)) o (rest-of-row q mul gs (suc n) rs ms C f r x t)
            (vector-sum q mul gs (suc n) rs ms C E echelon-vector D.difference.0 (length E) (omega arith))))
          where
            sum : (j : ℕ) → IsCongruent (suc q) (entry r j + combination D.difference.0 E j) (entry w j)
            sum j = congruent_trans (congruent_add (congruent_refl (entry r j)) (D.difference.1.each j))
                (let e : suc q - 1 ≡ q = omega arith in rw e (to_congruent 0 (entry r j) (omega arith)))

            same : vector q w
                ≡ (vectors q mul).add (vector q r) (λ j. residue q (combination D.difference.0 E j))
            same = fun_ext
                (λ j. sym (plus-residue q (entry r j) (combination D.difference.0 E j)
                ∙ residue-same q (sum j)))

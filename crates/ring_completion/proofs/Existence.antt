-- In each degree there is a completion: the premises of the laws can be met.
use Rattle.std.proofs.Common.{◌≡◌, ℕ, suc, ◌+◌, ◌*◌, ◌<◌, ◌≤◌, List, [], ◌++◌, length, true, false, ◌⊎◌, inl}
use Rattle.std.proofs.Common.{inr, arith, ap, sym, ◌∙◌, refl}
use Rattle.std.specs.List.{AllByRecursion as Each}
use Rattle.std.proofs.lemmas.Bool.{cases_Bool, cases_lt, cases_eq}
use Rattle.linear_algebra.specs.Modular.{IsCongruent, IsFieldModulo}
use Rattle.linear_algebra.proofs.Congruences.{congruent_refl, congruent_eq, congruent_trans, congruent_sym}
use Rattle.linear_algebra.proofs.Congruences.{congruent_add, congruent_mul_left, to_congruent}
use Rattle.graded_polynomials.specs.Monomials.{IsMonomial, IsMonomials, degree, joined}
use Rattle.graded_polynomials.specs.Polynomials.{Term, Polynomial, coefficient, scaled, IsOver}
use Rattle.graded_polynomials.specs.Texts.{power}
use Rattle.graded_polynomials.proofs.Monomials.{over-multiple}
use Rattle.graded_polynomials.proofs.Terms.{false≢true}
use Rattle.ring_completion.proofs.Quotients.{degree-positive}
use Rattle.graded_algebra.specs.Algebras.{Generator, degrees, value, times, IsGradedCommutative}
use Rattle.graded_algebra.specs.Presentations.{IsConsequence, IsRelations}
use Rattle.graded_algebra.specs.Vectors.{Vector, vectors}
use Rattle.graded_algebra.proofs.Ideals.{ideal-zero}
use Rattle.presentation_rows.specs.RowPolynomials.{polynomial_of, row_of}
use Rattle.presentation_rows.proofs.RowTerms.{row-of-is-row}
use Rattle.ring_completion.specs.Candidates.{IsListed, AreCandidates}
use Rattle.ring_completion.specs.Completions.{alone, generator_times, degree_of, IsGenerator, IsStandardOf}
use Rattle.ring_completion.specs.Completions.{IsReduced, AreProducts}
use Rattle.ring_completion.specs.Eliminations.{AreForms}
use Rattle.ring_completion.specs.Listings.{AreStandardLists, standard_of, is_listed}
use Rattle.ring_completion.proofs.FormRows.{form-of-product}
use Rattle.ring_completion.proofs.LeadingCandidates.{candidates-separate}
use Rattle.ring_completion.proofs.ListedCandidates.{standard-listed, generator-at}
use Rattle.ring_completion.proofs.Listings.{within-length, listed-if-found, found-if-listed}
use Rattle.ring_completion.proofs.ListRows.{same-as-list, over-list}
use Rattle.ring_completion.proofs.Lower.{known, reduced-exists}
use Rattle.ring_completion.proofs.Reduction.{reduce}
use Rattle.ring_completion.proofs.Rests.{plus, same-consequence, over-plus, at-plus}

module _ (q : ℕ) (field : IsFieldModulo (suc q)) (mul : ℕ → ℕ → Vector q → Vector q → Vector q)
    (In : ℕ → Vector q → Type 0)
    (L : IsGradedCommutative q (Vector q) (vectors q mul) In) (gs : List (Generator (Vector q)))
    (positive : Each (λ d. 0 < d) (degrees gs))
    (free : (c : ℕ) → times (vectors q mul) c (vectors q mul).one ≡ (vectors q mul).zero
    → IsCongruent (suc q) c 0)
    (n : ℕ) (rs : List Polynomial) (R : IsRelations q (vectors q mul) gs n rs) (lists : List (List (List ℕ)))
    (S : AreStandardLists q (vectors q mul) gs n lists) where
  abbrev pub δ : ℕ → ℕ
  δ i = degree_of (degrees gs) i

  -- i is a generator and s a standard monomial
  abbrev pub Pair : ℕ → List ℕ → Type 0
  Pair i s = IsGenerator q (degrees gs) i × IsStandardOf q (vectors q mul) gs (degree (degrees gs) s) s

  -- pairs of a degree to n + 1 are decided
  pub decided : (i : ℕ) (s : List ℕ) → Pair i s ⊎ (degree (degrees gs) s < suc n → Pair i s → ⊥)
  decided i s = go (cases_lt i (length (degrees gs))) (cases_lt (degree (degrees gs) s) (suc n))
      (cases_Bool (is_listed (standard_of lists (degree (degrees gs) s)) s))
    where
      e : ℕ
      e = degree (degrees gs) s

      go : (i < length (degrees gs)) ⊎ (length (degrees gs) ≤ i) → (e < suc n) ⊎ (suc n ≤ e)
          → (is_listed (standard_of lists e) s ≡ true) ⊎ (is_listed (standard_of lists e) s ≡ false)
          → Pair i s ⊎ (e < suc n → Pair i s → ⊥)
      go (inr l) o t =
          inr (λ b p. absurd (let z = within-length (degrees gs) i p.0.within in omega (arith, l, z)))
      go (inl l) (inr o) t = inr (λ b p. absurd (omega (arith, b, o)))
      go (inl l) (inl o) (inr t) = inr
          (λ b p. absurd
          (true-false (sym
          (found-if-listed (standard_of lists e) s
          ((standard-listed q (Vector q) (vectors q mul) In L gs field positive free n rs R lists S e o s).0
          p.1)) ∙ t)))
        where
          true-false : true ≡ false → ⊥
          true-false z = cc
      go (inl l) (inl o) (inl t) = inl (
        generator-at q (degrees gs) i l,
        (standard-listed q (Vector q) (vectors q mul) In L gs field positive free n rs R lists S e o s).1
            (listed-if-found (standard_of lists e) s t),
      )

  over-times : (i e : ℕ) (s : List ℕ) → IsGenerator q (degrees gs) i → IsMonomial q (degrees gs) e s
      → IsOver q (degrees gs) (δ i + e) (generator_times q (degrees gs) i s)
  over-times i e s I M = over-multiple q (degrees gs) (δ i) e (δ i + e) 1 (power i 1) (alone s) I (M, tt) refl

  -- the sum of standard monomials with the value of a product of a degree to n
  sum-of : (i : ℕ) (s : List ℕ) → Pair i s → (δ i + degree (degrees gs) s < suc n)
      ⊎ (suc n ≤ δ i + degree (degrees gs) s) → List Term
  sum-of i s p (inl l) = (reduced-exists q (Vector q) (vectors q mul) In L gs (δ i + degree (degrees gs) s)
      (known q (Vector q) (vectors q mul) In L gs field positive free n rs R (δ i + degree (degrees gs) s)
      (omega (arith, l))) field (generator_times q (degrees gs) i s)
      (over-times i (degree (degrees gs) s) s p.0 p.1.monomial)).0
  sum-of i s p (inr l) = []

  sum-is : (i : ℕ) (s : List ℕ) (p : Pair i s)
      (o : (δ i + degree (degrees gs) s < suc n) ⊎ (suc n ≤ δ i + degree (degrees gs) s))
      → δ i + degree (degrees gs) s < suc n
      → IsReduced q (vectors q mul) gs (δ i + degree (degrees gs) s) (sum-of i s p o)
      × (value (vectors q mul) gs (sum-of i s p o)
      ≡ value (vectors q mul) gs (generator_times q (degrees gs) i s))
  unfolding sum-of
  sum-is i s p (inl l) b = let r =
      reduced-exists q (Vector q) (vectors q mul) In L gs (δ i + degree (degrees gs) s)
      (known q (Vector q) (vectors q mul) In L gs field positive free n rs R (δ i + degree (degrees gs) s)
      (omega (arith, l))) field (generator_times q (degrees gs) i s)
      (over-times i (degree (degrees gs) s) s p.0 p.1.monomial) in (r.1, r.2)
  sum-is i s p (inr l) b = absurd (omega (arith, l, b))

  product-by : (i : ℕ) (s : List ℕ) → Pair i s ⊎ (degree (degrees gs) s < suc n → Pair i s → ⊥) → List Term
  product-by i s (inl p) = sum-of i s p (cases_lt (δ i + degree (degrees gs) s) (suc n))
  product-by i s (inr p) = []

  product-is : (i : ℕ) (s : List ℕ) (o : Pair i s ⊎ (degree (degrees gs) s < suc n → Pair i s → ⊥)) → Pair i s
      → δ i + degree (degrees gs) s < suc n
      → IsReduced q (vectors q mul) gs (δ i + degree (degrees gs) s) (product-by i s o)
      × (value (vectors q mul) gs (product-by i s o)
      ≡ value (vectors q mul) gs (generator_times q (degrees gs) i s))
  unfolding product-by
  product-is i s (inl p) x l = sum-is i s p (cases_lt (δ i + degree (degrees gs) s) (suc n)) l
  product-is i s (inr p) x l = absurd (p (omega (arith, l)) x)

  pub products : ℕ → List ℕ → List Term
  products i s = product-by i s (decided i s)

  pub are-products : AreProducts q (vectors q mul) gs (suc n) products
  unfolding products
  are-products = record {
    reduced = λ i e s I X l. let z = X.monomial.degree_is in let r =
        product-is i s (decided i s) (I, rw z X) (rw z l) in rw (← z) r.0;
    value_is = λ i e s I X l. let z = X.monomial.degree_is in
        (product-is i s (decided i s) (I, rw z X) (rw z l)).1;
  }

  module _ (ns : List (List ℕ)) (M : IsMonomials q (degrees gs) (suc n) ns) (ms : List (List ℕ))
      (C : AreCandidates q (vectors q mul) gs (suc n) ms) where
    -- a product of degree n + 1, modulo consequences, over the candidates
    record IsOverCandidates (i : ℕ) (s : List ℕ) (g : List Term) : Type 0 where
      over : IsOver q (degrees gs) (suc n) g
      clean : (m : List ℕ) → IsMonomial q (degrees gs) (suc n) m
          → IsListed ms m ⊎ IsCongruent (suc q) (coefficient g m) 0
      difference : IsConsequence q (vectors q mul) gs rs (suc n)
          (generator_times q (degrees gs) i s ++ scaled q g)

    over-here : (i : ℕ) (s : List ℕ) → Pair i s → δ i + degree (degrees gs) s ≡ suc n
        → IsOver q (degrees gs) (suc n) (generator_times q (degrees gs) i s)
    over-here i s p z = rw (← z) (over-times i (degree (degrees gs) s) s p.0 p.1.monomial)

    reduced-product : (i : ℕ) (s : List ℕ) → Pair i s → δ i + degree (degrees gs) s ≡ suc n
        → (g : List Term) × IsOverCandidates i s g
    reduced-product i s p z = made
        (reduce q field (degrees gs) (suc n) ns M (vectors q mul)
        (IsConsequence q (vectors q mul) gs rs (suc n)) (λ f c. c.over) ms
        (candidates-separate q field mul In L gs positive free n rs R ms C) Q more x
        (over-here i s p z, start))
      where
        x : List Term
        x = generator_times q (degrees gs) i s

        Q : List Term → Type 0
        Q f = IsOver q (degrees gs) (suc n) f × IsConsequence q (vectors q mul) gs rs (suc n)
            (x ++ scaled q f)

        start : IsConsequence q (vectors q mul) gs rs (suc n) (x ++ scaled q x)
        start = record {
          over = over-plus q mul gs (suc n) rs ms C.some x x q (over-here i s p z) (over-here i s p z);
          ideal = ideal-zero q (degrees gs) rs (suc n) (x ++ scaled q x)
              (λ m. congruent_trans (congruent_eq (at-plus q mul gs (suc n) rs ms C.some x x q m))
              (to_congruent 0 (coefficient x m) (omega arith)));
        }

        more : (f t : List Term) (c : ℕ) → Q f → IsConsequence q (vectors q mul) gs rs (suc n) t
            → Q (f ++ scaled c t)
        more f t c y k = (
          over-plus q mul gs (suc n) rs ms C.some f t c y.0 k.over,
          same-consequence q mul gs (suc n) rs ms C.some ((x ++ scaled q f) ++ scaled (q * c) t)
              (x ++ scaled q (f ++ scaled c t))
              (over-plus q mul gs (suc n) rs ms C.some x (f ++ scaled c t) q (over-here i s p z)
              (over-plus q mul gs (suc n) rs ms C.some f t c y.0 k.over))
              (record {
                at = λ m. congruent_eq (at-plus q mul gs (suc n) rs ms C.some x (f ++ scaled c t) q m
                    ∙ ap (λ w. coefficient x m + q * w) (at-plus q mul gs (suc n) rs ms C.some f t c m)
                    ∙ turned (coefficient x m) (coefficient f m) (coefficient t m)
                    ∙ sym (at-plus q mul gs (suc n) rs ms C.some (x ++ scaled q f) t (q * c) m
                    ∙ ap (λ w. w + (q * c) * coefficient t m)
                    (at-plus q mul gs (suc n) rs ms C.some x f q m)));
              })
              (plus q mul gs (suc n) rs ms C.some (x ++ scaled q f) t (q * c) y.1 k),
        )
          where
            turned : (a b t : ℕ) → a + q * (b + c * t) ≡ (a + q * b) + (q * c) * t
            turned a b t = omega arith

        made : (g : List Term) × Q g
            × ((m : List ℕ) → IsMonomial q (degrees gs) (suc n) m
            → IsListed ms m ⊎ IsCongruent (suc q) (coefficient g m) 0)
            → (g : List Term) × IsOverCandidates i s g
        made (g, y, c) = (g, record { over = y.0; clean = c; difference = y.1 })

    abbrev Here : ℕ → List ℕ → Type 0
    Here i s = δ i + degree (degrees gs) s ≡ suc n

    form-by : (i : ℕ) (s : List ℕ) → Pair i s ⊎ (degree (degrees gs) s < suc n → Pair i s → ⊥)
        → Here i s ⊎ (Here i s → ⊥)
        → (is_listed ms (joined (power i 1) s) ≡ true) ⊎ (is_listed ms (joined (power i 1) s) ≡ false)
        → List Term
    form-by i s (inr p) z b = []
    form-by i s (inl p) (inr z) b = []
    form-by i s (inl p) (inl z) (inl b) = generator_times q (degrees gs) i s
    form-by i s (inl p) (inl z) (inr b) = (reduced-product i s p z).0

    pub forms : ℕ → List ℕ → List ℕ
    forms i s = row_of q ms
        (form-by i s (decided i s) (cases_eq (δ i + degree (degrees gs) s) (suc n))
        (cases_Bool (is_listed ms (joined (power i 1) s))))

    form-same : (i : ℕ) (s : List ℕ) → Pair i s → degree (degrees gs) s < suc n → Here i s
        → (o : Pair i s ⊎ (degree (degrees gs) s < suc n → Pair i s → ⊥)) → (z : Here i s ⊎ (Here i s → ⊥))
        → (b : (is_listed ms (joined (power i 1) s) ≡ true) ⊎ (is_listed ms (joined (power i 1) s) ≡ false))
        → IsConsequence q (vectors q mul) gs rs (suc n)
        (generator_times q (degrees gs) i s ++ scaled q (polynomial_of ms (row_of q ms (form-by i s o z b))))
    unfolding form-by
    form-same i s p l h (inr o) z b = absurd (o l p)
    form-same i s p l h (inl o) (inr z) b = absurd (z h)
    form-same i s p l h (inl o) (inl z) (inl b) =
        form-of-product q mul gs (suc n) rs ms C.some i s (listed-if-found ms (joined (power i 1) s) b)
    form-same i s p l h (inl o) (inl z) (inr b) = let r = reduced-product i s o z in
        same-consequence q mul gs (suc n) rs ms C.some (generator_times q (degrees gs) i s ++ scaled q r.0)
        (generator_times q (degrees gs) i s ++ scaled q (polynomial_of ms (row_of q ms r.0)))
        (over-plus q mul gs (suc n) rs ms C.some (generator_times q (degrees gs) i s)
        (polynomial_of ms (row_of q ms r.0)) q (over-here i s o z) (over-list C.some (row_of q ms r.0)))
        (record {
          at = λ m. congruent_trans
              (congruent_eq
              (at-plus q mul gs (suc n) rs ms C.some (generator_times q (degrees gs) i s)
              (polynomial_of ms (row_of q ms r.0)) q m))
              (congruent_trans
              (congruent_add (congruent_refl (coefficient (generator_times q (degrees gs) i s) m))
              (congruent_mul_left q (congruent_sym ((same-as-list C.some r.0 r.1.over r.1.clean).at m))))
              (congruent_eq
              (sym (at-plus q mul gs (suc n) rs ms C.some (generator_times q (degrees gs) i s) r.0 q m))));
        })
        r.1.difference

    form-listed : (i : ℕ) (s : List ℕ) → Pair i s → degree (degrees gs) s < suc n → Here i s
        → IsListed ms (joined (power i 1) s) → (o : Pair i s ⊎ (degree (degrees gs) s < suc n → Pair i s → ⊥))
        → (z : Here i s ⊎ (Here i s → ⊥))
        → (b : (is_listed ms (joined (power i 1) s) ≡ true) ⊎ (is_listed ms (joined (power i 1) s) ≡ false))
        → form-by i s o z b ≡ generator_times q (degrees gs) i s
    unfolding form-by
    form-listed i s p l h x (inr o) z b = absurd (o l p)
    form-listed i s p l h x (inl o) (inr z) b = absurd (z h)
    form-listed i s p l h x (inl o) (inl z) (inl b) = refl
    form-listed i s p l h x (inl o) (inl z) (inr b) =
        false≢true (sym b ∙ found-if-listed ms (joined (power i 1) s) x)

    pub are-forms : AreForms q mul gs rs (suc n) ms forms
    unfolding forms
    are-forms = record {
      row = λ i e s I X d. row-of-is-row q ms _;
      same = λ i e s I X d. let z = X.monomial.degree_is in let p =
          degree-positive (degrees gs) i positive I.within in
          form-same i s (I, rw z X) (omega (arith, z, p, d)) (rw z d) (decided i s)
          (cases_eq (δ i + degree (degrees gs) s) (suc n))
          (cases_Bool (is_listed ms (joined (power i 1) s)));
      listed = λ i e s I X d l. let z = X.monomial.degree_is in let p =
          degree-positive (degrees gs) i positive I.within in
          ap (row_of q ms)
          (form-listed i s (I, rw z X) (omega (arith, z, p, d)) (rw z d) l (decided i s)
          (cases_eq (δ i + degree (degrees gs) s) (suc n))
          (cases_Bool (is_listed ms (joined (power i 1) s))));
    }

    pub form-length : (i : ℕ) (s : List ℕ) → length (forms i s) ≡ length ms
    unfolding forms
    form-length i s =
        (row-of-is-row q ms
        (form-by i s (decided i s) (cases_eq (δ i + degree (degrees gs) s) (suc n))
        (cases_Bool (is_listed ms (joined (power i 1) s))))).length_is

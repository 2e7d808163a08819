-- Polynomials of lower degree: each is equal to a combination of standard monomials, and to one only.
use Rattle.std.proofs.Common.{◌≡◌, ◌≢◌, ℕ, zero, suc, ◌+◌, ◌*◌, ◌%◌, ◌<◌, ◌≤◌, List, [], ◌∷◌, ◌++◌, length}
use Rattle.std.proofs.Common.{true, false, ◌⊎◌, inl, inr, arith, ap, ap₂, sym, ◌∙◌, refl}
use Rattle.std.specs.Prelude.{slice_index_or}
use Rattle.std.proofs.Math.Nat.{zero-mod}
use Rattle.std.proofs.lemmas.Bool.{cases_lt, cases_order}
use Rattle.std.specs.List.{AllByRecursion as Each}
use Rattle.linear_algebra.specs.Modular.{IsCongruent, IsFieldModulo}
use Rattle.linear_algebra.proofs.Congruences.{congruent_eq, congruent_trans, congruent_sym, congruent_add}
use Rattle.linear_algebra.proofs.Congruences.{congruent_mul_left, congruent_cancel, to_congruent}
use Rattle.graded_polynomials.specs.Monomials.{IsMonomial, IsMonomials, IsGreater, same}
use Rattle.graded_polynomials.specs.Polynomials.{Term, Polynomial, coefficient, scaled, IsOver, IsSame}
use Rattle.graded_polynomials.proofs.Monomials.{only-one}
use Rattle.graded_polynomials.proofs.Order.{greater-self}
use Rattle.graded_polynomials.proofs.Stored.{among}
use Rattle.graded_polynomials.proofs.Terms.{each-append, over-scaled, coefficient-append, coefficient-scaled}
use Rattle.graded_polynomials.proofs.Terms.{cases-same}
use Rattle.graded_algebra.specs.Algebras.{Algebra, Generator, degrees, evaluate, value, times}
use Rattle.graded_algebra.specs.Algebras.{IsGradedCommutative}
use Rattle.graded_algebra.specs.Presentations.{IsLeading, IsRelation, IsStandard, IsRelations}
use Rattle.graded_algebra.proofs.Ideals.{fits-nil, degree-nil}
use Rattle.graded_algebra.proofs.Leading.{not-zero, LeadsAt, vanishes-below}
use Rattle.graded_algebra.proofs.Places.{coefficient_at, zero-everywhere, leading-at, at-leading}
use Rattle.graded_algebra.proofs.Relations.{Status, status-at, consequence-relation}
use Rattle.graded_algebra.proofs.Superfluous.{Level, level}
use Rattle.graded_algebra.proofs.Values.{linear-append, linear-scaled, linear-same}
use Rattle.graded_algebra.proofs.Vectors.{times-zero, add-minus}
use Rattle.presentation_rows.specs.RowPolynomials.{polynomial_of, row_of}
use Rattle.presentation_rows.proofs.RowTerms.{each-term, over-row, same-as-row, entry-row-of}
use Rattle.linear_algebra.specs.Rows.{entry}
use Rattle.ring_completion.specs.Completions.{IsReduced, alone}
use Rattle.ring_completion.proofs.Constants.{constant-zero}
use Rattle.ring_completion.proofs.Reduction.{reduced}

each-scaled-monomial : (P : List ℕ → Type 0) (c : ℕ) (f : List Term) → Each (λ t. P t.monomial) f
    → Each (λ t. P t.monomial) (scaled c f)
each-scaled-monomial P c [] h = tt
each-scaled-monomial P c (t ∷ f) h = (h.0, each-scaled-monomial P c f h.1)

module _ (q : ℕ) (V : Type 0) (A : Algebra V) (In : ℕ → V → Type 0) (L : IsGradedCommutative q V A In)
    (gs : List (Generator V)) where
  pub reduced-append : (e : ℕ) (f g : List Term) → IsReduced q A gs e f → IsReduced q A gs e g
      → IsReduced q A gs e (f ++ g)
  reduced-append e f g F G = record {
    over = each-append (λ (t : Term). IsMonomial q (degrees gs) e t.monomial) f g F.over G.over;
    standard = each-append (λ (t : Term). IsStandard q A gs e t.monomial) f g F.standard G.standard;
  }

  pub reduced-scaled : (e c : ℕ) (f : List Term) → IsReduced q A gs e f → IsReduced q A gs e (scaled c f)
  reduced-scaled e c f F = record {
    over = over-scaled q (degrees gs) e c f F.over;
    standard =
        each-scaled-monomial (IsStandard q A gs e) c f F.standard;
  }

  -- all monomials of degree e, each of them standard or leading
  pub record Known (e : ℕ) : Type 0 where
    pub monomials : List (List ℕ)
    pub all : IsMonomials q (degrees gs) e monomials
    pub status : (k : ℕ) → k < length monomials → IsStandard q A gs e (slice_index_or monomials k [])
        ⊎ IsLeading q A (IsRelation q A gs e) (slice_index_or monomials k [])

  module _ (e : ℕ) (K : Known e) where
    -- sums of standard monomials with the same value are the same
    pub standard-same : (f g : List Term) → IsReduced q A gs e f → IsReduced q A gs e g
        → value A gs f ≡ value A gs g → IsSame q f g
    standard-same f g F G v = record { at = equal-at }
      where
        both : List Term
        both = f ++ scaled q g

        B : IsReduced q A gs e both
        B = reduced-append e f (scaled q g) F (reduced-scaled e q g G)

        is-relation : IsRelation q A gs e both
        is-relation = record {
          over = B.over;
          vanishes = linear-append q V A L.space (evaluate A gs) f (scaled q g)
              ∙ ap₂ A.add v (linear-scaled q V A L.space (evaluate A gs) q g)
              ∙ add-minus q V A L.space (value A gs g);
        }

        zeros : (k : ℕ) → k < length K.monomials → IsCongruent (suc q) (coefficient_at K.monomials both k) 0
        zeros = vanishes-below q (length K.monomials) (List Term) (coefficient_at K.monomials)
            (IsRelation q A gs e) both is-relation (length K.monomials)
            (λ k l. go k l (among (slice_index_or K.monomials k []) (IsStandard q A gs e) both B.standard))
          where
            go : (k : ℕ) → k < length K.monomials → (coefficient both (slice_index_or K.monomials k []) ≡ 0)
                ⊎ IsStandard q A gs e (slice_index_or K.monomials k [])
                → IsCongruent (suc q) (coefficient_at K.monomials both k) 0
                ⊎ (LeadsAt q (length K.monomials) (List Term) (coefficient_at K.monomials)
                (IsRelation q A gs e) k → ⊥)
            go k l (inl z) = inl (congruent_eq z)
            go k l (inr s) = inr
                (λ a. s (leading-at q (degrees gs) e K.monomials K.all A (IsRelation q A gs e)
                (λ f r. r.over) k l a))

        equal-at : (n : List ℕ) → IsCongruent (suc q) (coefficient f n) (coefficient g n)
        equal-at n = congruent_cancel (q * coefficient g n)
            (congruent_trans
            (congruent_eq
            (sym (coefficient-append f (scaled q g) n
            ∙ ap (λ x. coefficient f n + x) (coefficient-scaled q g n))))
            (congruent_trans
            (zero-everywhere q (degrees gs) e K.monomials K.all both is-relation.over zeros n)
            (congruent_sym (to_congruent 0 (coefficient g n) (omega arith)))))

    -- each polynomial is equal to a sum of standard monomials
    pub reduced-exists : IsFieldModulo (suc q) → (f : List Term) → IsOver q (degrees gs) e f
        → (g : List Term) × IsReduced q A gs e g × (value A gs g ≡ value A gs f)
    reduced-exists field f o = made
        (reduced q (length K.monomials) (List Term) (coefficient_at K.monomials) field
        (λ f c g. f ++ scaled c g)
        (λ f g c k. congruent_eq
        (coefficient-append f (scaled c g) _ ∙ ap (λ z. coefficient_at K.monomials f k + z)
        (coefficient-scaled c g _)))
        (IsRelation q A gs e) Q (λ k. IsStandard q A gs e (slice_index_or K.monomials k []))
        (λ k l. status k l (K.status k l)) plus f (o, refl))
      where
        Q : List Term → Type 0
        Q g = IsOver q (degrees gs) e g × (value A gs g ≡ value A gs f)

        Std : ℕ → Type 0
        Std k = IsStandard q A gs e (slice_index_or K.monomials k [])

        Leads : ℕ → Type 0
        Leads k = LeadsAt q (length K.monomials) (List Term) (coefficient_at K.monomials)
            (IsRelation q A gs e) k

        status : (k : ℕ) → k < length K.monomials → IsStandard q A gs e (slice_index_or K.monomials k [])
            ⊎ IsLeading q A (IsRelation q A gs e) (slice_index_or K.monomials k [])
            → Std k ⊎ ((Std k → ⊥) × Leads k)
        status k l (inl s) = inl s
        status k l (inr h) = inr (
          (λ s. s h),
          at-leading q (degrees gs) e K.monomials K.all A (IsRelation q A gs e)
              (λ f r. r.over) k l h,
        )

        plus : (g : List Term) (c k : ℕ) → Q g → (Std k → ⊥) → (t : Leads k) → k < length K.monomials
            → coefficient_at K.monomials g k % suc q ≢ 0 → Q (g ++ scaled c t.member)
        plus g c k y ns t l nz = (
          each-append (λ (t : Term). IsMonomial q (degrees gs) e t.monomial) g (scaled c t.member) y.0
              (over-scaled q (degrees gs) e c t.member t.is_member.over),
          linear-append q V A L.space (evaluate A gs) g (scaled c t.member)
              ∙ ap₂ A.add y.1
              (linear-scaled q V A L.space (evaluate A gs) c t.member ∙ ap (times A c) t.is_member.vanishes
              ∙ times-zero q V A L.space c)
              ∙ L.space.add-zero _,
        )

        made : (g : List Term) × Q g
            × ((j : ℕ) → j < length K.monomials
            → Std j ⊎ IsCongruent (suc q) (coefficient_at K.monomials g j) 0)
            → (g : List Term) × IsReduced q A gs e g × (value A gs g ≡ value A gs f)
        made (g, y, h) = (
          polynomial_of K.monomials (row_of q K.monomials g),
          record {
            over = over-row K.all (row_of q K.monomials g);
            standard = each-term (λ t. IsStandard q A gs e t.monomial) K.monomials (row_of q K.monomials g)
                (λ k c l x. keep k c l x (h k l));
          },
          sym (linear-same q V A L.space (evaluate A gs) g
              (polynomial_of K.monomials (row_of q K.monomials g)) (same-as-row K.all g y.0)) ∙ y.1,
        )
          where
            keep : (k c : ℕ) → k < length K.monomials → entry (row_of q K.monomials g) k ≡ suc c
                → Std k ⊎ IsCongruent (suc q) (coefficient_at K.monomials g k) 0 → Std k
            keep k c l x (inl s) = s
            keep k c l x (inr z) = absurd (let a : coefficient_at K.monomials g k % suc q ≡ 0 =
                z.same_remainder ∙ zero-mod (suc q) in
                let b = entry-row-of q K.monomials g k l in omega (arith, a, b, x))

  module _ (e : ℕ) (K : Known e) (field : IsFieldModulo (suc q)) (k : List ℕ)
      (M : IsMonomial q (degrees gs) e k) where
    -- a monomial is equal to a sum of standard monomials that are not greater
    pub reduced-below : (g : List Term) × IsReduced q A gs e g × (value A gs g ≡ value A gs (alone k))
        × Each (λ t. (t.monomial ≡ k) ⊎ IsGreater k t.monomial) g
    reduced-below = made
        (reduced q (length K.monomials) (List Term) (coefficient_at K.monomials) field
        (λ f c g. f ++ scaled c g)
        at-plus (IsRelation q A gs e) Q (λ k. IsStandard q A gs e (slice_index_or K.monomials k []))
        (λ k l. status k l (K.status k l)) plus (alone k) start)
      where
        at-plus : (f g : List Term) (c j : ℕ)
            → IsCongruent (suc q) (coefficient_at K.monomials (f ++ scaled c g) j)
            (coefficient_at K.monomials f j + c * coefficient_at K.monomials g j)
        at-plus f g c j = congruent_eq
            (coefficient-append f (scaled c g) _ ∙ ap (λ z. coefficient_at K.monomials f j + z)
            (coefficient-scaled c g _))

        place : (i : ℕ) × (i < length K.monomials) × (slice_index_or K.monomials i [] ≡ k)
        place = K.all.all k M

        Q : List Term → Type 0
        Q g = IsOver q (degrees gs) e g × (value A gs g ≡ value A gs (alone k))
            × ((j : ℕ) → j < place.0 → IsCongruent (suc q) (coefficient_at K.monomials g j) 0)

        apart : (j : ℕ) → j < place.0 → same k (slice_index_or K.monomials j []) ≡ false
        apart j l = go (cases-same k (slice_index_or K.monomials j []))
          where
            go : ((same k (slice_index_or K.monomials j []) ≡ true) × (k ≡ slice_index_or K.monomials j []))
                ⊎ ((same k (slice_index_or K.monomials j []) ≡ false) × (k ≢ slice_index_or K.monomials j []))
                → same k (slice_index_or K.monomials j []) ≡ false
            go (inr x) = x.0
            go (inl x) = absurd
                (let g : IsGreater (slice_index_or K.monomials j []) (slice_index_or K.monomials place.0 []) =
                K.all.descending j place.0 l place.1 in
                greater-self k (rw (← x.1, place.2) at g))

        start : Q (alone k)
        start = ((M, tt), refl, (λ j l. congruent_eq (let z = apart j l in rw z refl)))

        Std : ℕ → Type 0
        Std j = IsStandard q A gs e (slice_index_or K.monomials j [])

        Leads : ℕ → Type 0
        Leads j = LeadsAt q (length K.monomials) (List Term) (coefficient_at K.monomials)
            (IsRelation q A gs e) j

        status : (j : ℕ) → j < length K.monomials → IsStandard q A gs e (slice_index_or K.monomials j [])
            ⊎ IsLeading q A (IsRelation q A gs e) (slice_index_or K.monomials j [])
            → Std j ⊎ ((Std j → ⊥) × Leads j)
        status j l (inl s) = inl s
        status j l (inr h) = inr (
          (λ s. s h),
          at-leading q (degrees gs) e K.monomials K.all A (IsRelation q A gs e)
              (λ f r. r.over) j l h,
        )

        plus : (g : List Term) (c j : ℕ) → Q g → (Std j → ⊥) → (t : Leads j) → j < length K.monomials
            → coefficient_at K.monomials g j % suc q ≢ 0 → Q (g ++ scaled c t.member)
        plus g c j y ns t l nz = (
          each-append (λ (t : Term). IsMonomial q (degrees gs) e t.monomial) g (scaled c t.member) y.0
              (over-scaled q (degrees gs) e c t.member t.is_member.over),
          linear-append q V A L.space (evaluate A gs) g (scaled c t.member)
              ∙ ap₂ A.add y.1
              (linear-scaled q V A L.space (evaluate A gs) c t.member ∙ ap (times A c) t.is_member.vanishes
              ∙ times-zero q V A L.space c)
              ∙ L.space.add-zero _,
          (λ x b. go x b (cases_lt x j)),
        )
          where
            go : (x : ℕ) → x < place.0 → (x < j) ⊎ (j ≤ x)
                → IsCongruent (suc q) (coefficient_at K.monomials (g ++ scaled c t.member) x) 0
            go x b (inl a) = congruent_trans (at-plus g t.member c x)
                (congruent_trans (congruent_add (y.2 x b) (congruent_mul_left c (t.before x a)))
                (congruent_eq (omega arith)))
            go x b (inr a) = absurd (not-zero (y.2 j (omega (arith, a, b))) nz)

        made : (g : List Term) × Q g
            × ((j : ℕ) → j < length K.monomials
            → Std j ⊎ IsCongruent (suc q) (coefficient_at K.monomials g j) 0)
            → (g : List Term) × IsReduced q A gs e g × (value A gs g ≡ value A gs (alone k))
            × Each (λ t. (t.monomial ≡ k) ⊎ IsGreater k t.monomial) g
        made (g, y, h) = (
          polynomial_of K.monomials (row_of q K.monomials g),
          record {
            over = over-row K.all (row_of q K.monomials g);
            standard = each-term (λ t. IsStandard q A gs e t.monomial) K.monomials (row_of q K.monomials g)
                (λ k c l x. keep k c l x (h k l));
          },
          sym (linear-same q V A L.space (evaluate A gs) g
              (polynomial_of K.monomials (row_of q K.monomials g)) (same-as-row K.all g y.0)) ∙ y.1,
          each-term (λ t. (t.monomial ≡ k) ⊎ IsGreater k t.monomial) K.monomials (row_of q K.monomials g)
              (λ j c l x. below j c l x (cases_order j place.0)),
        )
          where
            nonzero : (j c : ℕ) → j < length K.monomials → entry (row_of q K.monomials g) j ≡ suc c
                → IsCongruent (suc q) (coefficient_at K.monomials g j) 0 → ⊥
            nonzero j c l x z = absurd (let a : coefficient_at K.monomials g j % suc q ≡ 0 =
                z.same_remainder ∙ zero-mod (suc q) in
                let b = entry-row-of q K.monomials g j l in omega (arith, a, b, x))

            keep : (j c : ℕ) → j < length K.monomials → entry (row_of q K.monomials g) j ≡ suc c
                → Std j ⊎ IsCongruent (suc q) (coefficient_at K.monomials g j) 0 → Std j
            keep j c l x (inl s) = s
            keep j c l x (inr z) = absurd (nonzero j c l x z)

            below : (j c : ℕ) → j < length K.monomials → entry (row_of q K.monomials g) j ≡ suc c
                → (j ≡ place.0) ⊎ ((j < place.0) ⊎ (place.0 < j))
                → (slice_index_or K.monomials j [] ≡ k) ⊎ IsGreater k (slice_index_or K.monomials j [])
            below j c l x (inl a) = inl (ap (λ i. slice_index_or K.monomials i []) a ∙ place.2)
            below j c l x (inr (inl a)) = absurd (nonzero j c l x (y.2 j a))
            below j c l x (inr (inr a)) = inr
                (let g : IsGreater (slice_index_or K.monomials place.0 []) (slice_index_or K.monomials j []) =
                K.all.descending place.0 j a l in rw place.2 at g)

  module _ (field : IsFieldModulo (suc q)) (positive : Each (λ d. 0 < d) (degrees gs))
      (free : (c : ℕ) → times A c A.one ≡ A.zero → IsCongruent (suc q) c 0)
      (n : ℕ) (rs : List Polynomial) (R : IsRelations q A gs n rs) where
    known-zero : Known 0
    known-zero = record {
      monomials = [] ∷ [];
      all = record {
        each = λ i l. each i l;
        all = λ m M. (0, omega arith, sym (only-one q (degrees gs) m positive M));
        descending = λ i j b l. absurd (omega (arith, b, l));
      };
      status = λ k l. inl (λ h. at k l h);
    }
      where
        one : IsMonomial q (degrees gs) 0 []
        one = record {
          within = tt;
          trimmed = tt;
          fitting = fits-nil q (degrees gs);
          degree_is =
              degree-nil (degrees gs);
        }

        each : (i : ℕ) → i < 1 → IsMonomial q (degrees gs) 0 (slice_index_or ([] ∷ []) i [])
        each zero l = one
        each (suc i) l = absurd (omega (arith, l))

        at : (k : ℕ) → k < 1 → IsLeading q A (IsRelation q A gs 0) (slice_index_or ([] ∷ []) k []) → ⊥
        at k l h = not-zero
            (constant-zero q V A In L gs positive free h.member h.is_member.over h.is_member.vanishes
            (slice_index_or ([] ∷ []) k [])) h.here

    -- each degree to n is known
    pub known : (e : ℕ) → e ≤ n → Known e
    known zero l = known-zero
    known (suc e) l = record {
      monomials = v.ms;
      all = v.are_all;
      status =
          λ k b. go k b (status-at q V A gs v.before (suc e) v.ms v.new v.is_new k b);
    }
      where
        v : Level q V A In L gs field e rs
        v = level q V A In L gs field n rs R e l

        go : (k : ℕ) → k < length v.ms → Status q V A gs v.before (suc e) v.new (slice_index_or v.ms k [])
            → IsStandard q A gs (suc e) (slice_index_or v.ms k []) ⊎ IsLeading q A (IsRelation q A gs (suc e))
            (slice_index_or v.ms k [])
        go k b (inl s) = inl s
        go k b (inr (inl s)) = inr record {
          member = s.member;
          is_member = consequence-relation q V A In L gs e v.before v.is_before (suc e) s.member s.is_member;
          here = s.here;
          above = s.above;
        }
        go k b (inr (inr s)) = inr s.2

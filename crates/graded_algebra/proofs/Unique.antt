-- Each definition by a relation has one answer.
use Rattle.std.proofs.Common.{◌≡◌, ◌≢◌, ℕ, zero, suc, ◌+◌, ◌*◌, ◌<◌, List, [], ◌∷◌, ◌++◌, length, true, false}
use Rattle.std.proofs.Common.{◌⊎◌, inl, inr, arith, ap, ap₂, sym, ◌∙◌}
use Rattle.std.specs.Prelude.{slice_index_or}
use Rattle.linear_algebra.specs.Modular.{IsCongruent}
use Rattle.graded_polynomials.specs.Monomials.{IsMonomial, IsMonomials, same}
use Rattle.graded_polynomials.specs.Polynomials.{Term, Polynomial, coefficient, scaled}
use Rattle.graded_algebra.specs.Algebras.{Algebra, Generator, degrees, IsSpace}
use Rattle.graded_algebra.specs.Presentations.{IsTaken, IsGenerators, IsRelation, IsStandard, IsRelationAt}
use Rattle.graded_algebra.specs.Presentations.{IsRelationsFrom, IsRelations}
use Rattle.linear_algebra.proofs.Congruences.{congruent_eq, congruent_trans, congruent_sym, congruent_add}
use Rattle.linear_algebra.proofs.Congruences.{congruent_mul_left, congruent_cancel, to_congruent}
use Rattle.graded_algebra.proofs.Leading.{LeadsAt, vanishes-below}
use Rattle.graded_polynomials.proofs.Terms.{cases-same, coefficient-append, coefficient-scaled}
use Rattle.graded_polynomials.proofs.Stored.{polynomial-unique}
use Rattle.graded_polynomials.proofs.MonomialLists.{monomials-unique}
use Rattle.graded_algebra.proofs.Places.{coefficient_at, zero-everywhere, leading-at}
use Rattle.graded_algebra.proofs.Relations.{relation-plus}

module _ (q : ℕ) (V : Type 0) (A : Algebra V) (Sp : IsSpace q V A) where
  taken-unique : (d : ℕ) (vs : List V) (before gs hs : List (Generator V)) → IsTaken q A d vs before gs
      → IsTaken q A d vs before hs → gs ≡ hs
  taken-unique d [] before gs hs h k = h ∙ sym k
  taken-unique d (v ∷ vs) before gs hs (inl h) (inl k) = taken-unique d vs before gs hs h.1 k.1
  taken-unique d (v ∷ vs) before gs hs (inl h) (inr k) = absurd (k.0 h.0)
  taken-unique d (v ∷ vs) before gs hs (inr h) (inl k) = absurd (h.0 k.0)
  taken-unique d (v ∷ vs) before gs hs (inr h) (inr k) =
      taken-unique d vs (before ++ record { degree = d; class = v } ∷ []) gs hs h.1 k.1

  -- the generators are determined
  pub generators-unique : (basis : ℕ → List V) (n : ℕ) (gs hs : List (Generator V))
      → IsGenerators q A basis n gs → IsGenerators q A basis n hs → gs ≡ hs
  generators-unique basis zero gs hs h k = h ∙ sym k
  generators-unique basis (suc n) gs hs h k =
      taken-unique (suc n) (basis (suc n)) h.0 gs hs h.2
      (rw (generators-unique basis n k.0 h.0 k.1 h.1) at k.2)

  module _ (gs : List (Generator V)) where
    -- the relation at a monomial is determined
    relation-unique : (d : ℕ) (ms : List (List ℕ)) → IsMonomials q (degrees gs) d ms
        → (m : List ℕ) (r s : Polynomial) → IsRelationAt q A gs d m r → IsRelationAt q A gs d m s → r ≡ s
    relation-unique d ms M m r s R S =
        ap₂ (λ e f. record { degree = e; terms = f }) (R.degree_is ∙ sym S.degree_is)
        (polynomial-unique q (degrees gs) d d r.terms s.terms R.polynomial S.polynomial
        (record { at = equal-at }))
      where
        both : List Term
        both = r.terms ++ scaled q s.terms

        is-relation : IsRelation q A gs d both
        is-relation = relation-plus q V A Sp gs d r.terms s.terms q
            (record { over = R.polynomial.over; vanishes = R.vanishes })
            (record { over = S.polynomial.over; vanishes = S.vanishes })

        both-at : (n : List ℕ) → coefficient both n ≡ coefficient r.terms n + q * coefficient s.terms n
        both-at n = coefficient-append r.terms (scaled q s.terms) n
            ∙ ap (λ x. coefficient r.terms n + x) (coefficient-scaled q s.terms n)

        Answer : ℕ → Type 0
        Answer k = IsCongruent (suc q) (coefficient_at ms both k) 0
            ⊎ (LeadsAt q (length ms) (List Term) (coefficient_at ms) (IsRelation q A gs d) k → ⊥)

        zeros : (k : ℕ) → k < length ms → IsCongruent (suc q) (coefficient_at ms both k) 0
        zeros = vanishes-below q (length ms) (List Term) (coefficient_at ms)
            (IsRelation q A gs d) both is-relation (length ms)
            (λ k l. go k l (cases-same (slice_index_or ms k []) m))
          where
            go : (k : ℕ) → k < length ms
                → ((same (slice_index_or ms k []) m ≡ true) × (slice_index_or ms k [] ≡ m))
                ⊎ ((same (slice_index_or ms k []) m ≡ false) × (slice_index_or ms k [] ≢ m)) → Answer k
            go k l (inl e) = inl (congruent_trans
                (congruent_eq (both-at (slice_index_or ms k [])
                ∙ ap₂ (λ x y. x + q * y) (ap (coefficient r.terms) e.1 ∙ R.one) (ap (coefficient s.terms) e.1
                ∙ S.one)))
                (to_congruent 0 1 (omega arith)))
            go k l (inr e) = pick (R.others (slice_index_or ms k []) e.1)
                (S.others (slice_index_or ms k []) e.1)
              where
                standard : IsMonomial q (degrees gs) d (slice_index_or ms k [])
                    × IsStandard q A gs d (slice_index_or ms k []) → Answer k
                standard x = inr (λ a. x.1
                    (leading-at q (degrees gs) d ms M A (IsRelation q A gs d) (λ f r. r.over) k l a))

                pick : (IsCongruent (suc q) (coefficient_at ms r.terms k) 0)
                    ⊎ (IsMonomial q (degrees gs) d (slice_index_or ms k [])
                    × IsStandard q A gs d (slice_index_or ms k []))
                    → (IsCongruent (suc q) (coefficient_at ms s.terms k) 0)
                    ⊎ (IsMonomial q (degrees gs) d (slice_index_or ms k [])
                    × IsStandard q A gs d (slice_index_or ms k [])) → Answer k
                pick (inl x) (inl y) = inl (congruent_trans (congruent_eq (both-at (slice_index_or ms k [])))
                    (congruent_trans (congruent_add x (congruent_mul_left q y)) (congruent_eq (omega arith))))
                pick (inr x) y = standard x
                pick (inl x) (inr y) = standard y

        equal-at : (n : List ℕ) → IsCongruent (suc q) (coefficient r.terms n) (coefficient s.terms n)
        equal-at n = congruent_cancel (q * coefficient s.terms n)
            (congruent_trans (congruent_eq (sym (both-at n)))
            (congruent_trans (zero-everywhere q (degrees gs) d ms M both is-relation.over zeros n)
            (congruent_sym (to_congruent 0 (coefficient s.terms n) (omega arith)))))

    relations-from-unique : (before : List Polynomial) (d : ℕ) (all : List (List ℕ))
        → IsMonomials q (degrees gs) d all → (ms : List (List ℕ)) (rs ss : List Polynomial)
        → IsRelationsFrom q A gs before d ms rs → IsRelationsFrom q A gs before d ms ss → rs ≡ ss
    relations-from-unique before d all M [] rs ss h k = h ∙ sym k
    relations-from-unique before d all M (m ∷ ms) rs ss (inl h) (inl k) =
        relations-from-unique before d all M ms rs ss h.1 k.1
    relations-from-unique before d all M (m ∷ ms) rs ss (inl h) (inr (inl k)) =
        relations-from-unique before d all M ms rs ss h.1 k.1
    relations-from-unique before d all M (m ∷ ms) rs ss (inr (inl h)) (inl k) =
        relations-from-unique before d all M ms rs ss h.1 k.1
    relations-from-unique before d all M (m ∷ ms) rs ss (inr (inl h)) (inr (inl k)) =
        relations-from-unique before d all M ms rs ss h.1 k.1
    relations-from-unique before d all M (m ∷ ms) rs ss (inl h) (inr (inr k)) = absurd (h.0 k.3)
    relations-from-unique before d all M (m ∷ ms) rs ss (inr (inr h)) (inl k) = absurd (k.0 h.3)
    relations-from-unique before d all M (m ∷ ms) rs ss (inr (inl h)) (inr (inr k)) = absurd (k.4 h.0)
    relations-from-unique before d all M (m ∷ ms) rs ss (inr (inr h)) (inr (inl k)) = absurd (h.4 k.0)
    relations-from-unique before d all M (m ∷ ms) rs ss (inr (inr h)) (inr (inr k)) =
        h.2 ∙ ap₂ (λ (r : Polynomial) rs. r ∷ rs) (relation-unique d all M m h.0 k.0 h.5 k.5)
        (relations-from-unique before d all M ms h.1 k.1 h.6 k.6) ∙ sym k.2

    -- the relations are determined
    pub relations-unique : (n : ℕ) (rs ss : List Polynomial) → IsRelations q A gs n rs
        → IsRelations q A gs n ss → rs ≡ ss
    relations-unique zero rs ss h k = h ∙ sym k
    relations-unique (suc n) rs ss h k = go (relations-unique n h.0 k.0 h.3 k.3)
      where
        go : h.0 ≡ k.0 → rs ≡ ss
        go e =
            h.6 ∙ ap₂ (λ (a b : List Polynomial). a ++ b) e
            (relations-from-unique h.0 (suc n) h.2 h.4 h.2 h.1 k.1 h.5
            (let u : IsRelationsFrom q A gs h.0 (suc n) k.2 k.1 = rw (sym e) at k.5 in rw
            (monomials-unique q (degrees gs) (suc n) k.2 h.2 k.4 h.4) at u))
            ∙ sym k.6

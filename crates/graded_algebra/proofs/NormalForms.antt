-- Each value has one normal form.
use Rattle.std.proofs.Common.{◌≡◌, ℕ, suc, ◌+◌, ◌*◌, ◌<◌, List, [], ◌∷◌, ◌++◌, length, ◌⊎◌, inl, inr, arith}
use Rattle.std.proofs.Common.{ap, ap₂, sym, ◌∙◌}
use Rattle.std.specs.Prelude.{slice_index_or}
use Rattle.std.specs.List.{AllByRecursion as Each}
use Rattle.linear_algebra.specs.Modular.{IsCongruent}
use Rattle.graded_polynomials.specs.Monomials.{IsMonomial, IsMonomials}
use Rattle.graded_polynomials.specs.Polynomials.{Term, coefficient, scaled}
use Rattle.graded_algebra.specs.Algebras.{Algebra, Generator, degrees, evaluate, times, IsSpace}
use Rattle.graded_algebra.specs.Presentations.{IsRelation, IsStandard, IsNormalForm}
use Rattle.linear_algebra.proofs.Congruences.{congruent_eq, congruent_trans, congruent_sym, congruent_cancel}
use Rattle.linear_algebra.proofs.Congruences.{to_congruent}
use Rattle.graded_algebra.proofs.Leading.{LeadsAt, vanishes-below}
use Rattle.graded_polynomials.proofs.Terms.{each-append, over-scaled, coefficient-append, coefficient-scaled}
use Rattle.graded_algebra.proofs.Vectors.{add-minus}
use Rattle.graded_algebra.proofs.Values.{linear-append, linear-scaled}
use Rattle.graded_algebra.proofs.Places.{coefficient_at, zero-everywhere, leading-at}
use Rattle.graded_polynomials.proofs.Stored.{polynomial-unique, among}

each-scaled-monomial : (P : List ℕ → Type 0) (c : ℕ) (f : List Term) → Each (λ t. P t.monomial) f
    → Each (λ t. P t.monomial) (scaled c f)
each-scaled-monomial P c [] h = tt
each-scaled-monomial P c (t ∷ f) h = (h.0, each-scaled-monomial P c f h.1)

module _ (q : ℕ) (V : Type 0) (A : Algebra V) (S : IsSpace q V A) (gs : List (Generator V)) (d : ℕ)
    (ms : List (List ℕ)) (M : IsMonomials q (degrees gs) d ms) where
  pub normal-form-unique : (v : V) (f g : List Term) → IsNormalForm q A gs d v f → IsNormalForm q A gs d v g
      → f ≡ g
  normal-form-unique v f g F G = polynomial-unique q (degrees gs) d d f g F.polynomial G.polynomial
      (record { at = equal-at })
    where
      both : List Term
      both = f ++ scaled q g

      is-relation : IsRelation q A gs d both
      is-relation = record {
        over = each-append (λ (t : Term). IsMonomial q (degrees gs) d t.monomial) f
            (scaled q g) F.polynomial.over (over-scaled q (degrees gs) d q g G.polynomial.over);
        vanishes = linear-append q V A S (evaluate A gs) f (scaled q g)
            ∙ ap₂ A.add F.value_is (linear-scaled q V A S (evaluate A gs) q g ∙ ap (times A q) G.value_is)
            ∙ add-minus q V A S v;
      }

      standard : Each (λ t. IsStandard q A gs d t.monomial) both
      standard = each-append (λ (t : Term). IsStandard q A gs d t.monomial) f (scaled q g) F.standard
          (each-scaled-monomial (IsStandard q A gs d) q g G.standard)

      zeros : (k : ℕ) → k < length ms → IsCongruent (suc q) (coefficient_at ms both k) 0
      zeros = vanishes-below q (length ms) (List Term) (coefficient_at ms)
          (IsRelation q A gs d) both is-relation (length ms)
          (λ k l. go k l (among (slice_index_or ms k []) (IsStandard q A gs d) both standard))
        where
          go : (k : ℕ) → k < length ms → (coefficient both (slice_index_or ms k []) ≡ 0)
              ⊎ IsStandard q A gs d (slice_index_or ms k [])
              → IsCongruent (suc q) (coefficient_at ms both k) 0
              ⊎ (LeadsAt q (length ms) (List Term) (coefficient_at ms) (IsRelation q A gs d) k → ⊥)
          go k l (inl z) = inl (congruent_eq z)
          go k l (inr s) = inr (λ a. s (leading-at q (degrees gs) d ms M A (IsRelation q A gs d)
              (λ f r. r.over) k l a))

      equal-at : (n : List ℕ) → IsCongruent (suc q) (coefficient f n) (coefficient g n)
      equal-at n = congruent_cancel (q * coefficient g n)
          (congruent_trans (congruent_eq
          (sym (coefficient-append f (scaled q g) n
          ∙ ap (λ x. coefficient f n + x) (coefficient-scaled q g n))))
          (congruent_trans (zero-everywhere q (degrees gs) d ms M both is-relation.over zeros n)
          (congruent_sym (to_congruent 0 (coefficient g n) (omega arith)))))

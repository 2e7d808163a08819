-- A vector less the members of an echelon list that clear its pivots: linear, and 0 exactly at the members of
-- the span.
use Rattle.std.proofs.Common.{◌≡◌, ℕ, zero, suc, ◌+◌, ◌*◌, List, [], ◌∷◌, length, arith, ap, ap₂, sym, ◌∙◌}
use Rattle.std.proofs.Math.Path.{fun_ext}
use Rattle.linear_algebra.specs.Modular.{IsCongruent, sum_below}
use Rattle.linear_algebra.specs.Rows.{entry, row, pivot, IsEchelon, IsInSpan}
use Rattle.linear_algebra.proofs.Congruences.{congruent_refl, congruent_eq, congruent_trans, congruent_sym}
use Rattle.linear_algebra.proofs.Congruences.{congruent_add, congruent_mul_left, congruent_mul_right}
use Rattle.linear_algebra.proofs.Congruences.{congruent_mod, to_congruent}
use Rattle.linear_algebra.proofs.EchelonLists.{HasPivots-from_echelon, Combines-from_combination}
use Rattle.linear_algebra.proofs.Pivots.{coefficient_at_pivot}
use Rattle.linear_algebra.proofs.Sums.{sum_below-add, sum_below-congruent, sum_below-vanishes}
use Rattle.graded_polynomials.specs.Polynomials.{Term}
use Rattle.graded_algebra.specs.Algebras.{Algebra, linear, times}
use Rattle.graded_algebra.specs.Vectors.{Vector, residue, vectors}
use Rattle.graded_algebra.proofs.VectorLemmas.{below-path, plus-residue}

pub residue-same : (q : ℕ) {a b : ℕ} → IsCongruent (suc q) a b → residue q a ≡ residue q b
residue-same q {a} {b} h = below-path (residue q a) (residue q b) h.same_remainder

-- a map that keeps sums and 0 goes through combinations
module _ {W : Type 0} (B : Algebra W) (f : W → W) (f-zero : f B.zero ≡ B.zero)
    (f-add : (x y : W) → f (B.add x y) ≡ B.add (f x) (f y)) where
  pub map-times : (c : ℕ) (x : W) → f (times B c x) ≡ times B c (f x)
  map-times zero x = f-zero
  map-times (suc c) x = f-add x (times B c x) ∙ ap (B.add (f x)) (map-times c x)

  pub map-linear : (u : List ℕ → W) (g : List Term) → f (linear B u g) ≡ linear B (λ m. f (u m)) g
  map-linear u [] = f-zero
  map-linear u (t ∷ g) = f-add _ _ ∙ ap₂ B.add (map-times t.scalar (u t.monomial)) (map-linear u g)

module _ (q : ℕ) (E : List (List ℕ)) where
  abbrev taken : Vector q → ℕ → ℕ
  taken v j = sum_below (length E) (λ i. (v (pivot (row E i))).0 * entry (row E i) j)

  abbrev number : Vector q → ℕ → ℕ
  number v j = (v j).0 + q * taken v j

  pub remainder : Vector q → Vector q
  remainder v j = residue q (number v j)

  module _ (mul : ℕ → ℕ → Vector q → Vector q → Vector q) where
    number-zero : (j : ℕ) → IsCongruent (suc q) (number (vectors q mul).zero j) 0
    number-zero j = congruent_trans (congruent_add (congruent_mod 0) (congruent_mul_left q
        (sum_below-vanishes (suc q) (length E) (λ i. (residue q 0).0 * entry (row E i) j)
        (λ i l. congruent_trans (congruent_mul_right (entry (row E i) j) (congruent_mod 0))
        (congruent_eq (omega arith)))))) (congruent_eq (omega arith))

    pub remainder-zero : remainder (vectors q mul).zero ≡ (vectors q mul).zero
    unfolding remainder
    remainder-zero = fun_ext (λ j. residue-same q (number-zero j))

    number-add : (v w : Vector q) (j : ℕ)
        → IsCongruent (suc q) (number ((vectors q mul).add v w) j) (number v j + number w j)
    number-add v w j =
        congruent_trans (congruent_add (congruent_mod ((v j).0 + (w j).0)) (congruent_mul_left q
        (congruent_trans
        (sum_below-congruent (suc q) (length E)
        (λ i. (((vectors q mul).add v w) (pivot (row E i))).0 * entry (row E i) j)
        (λ i. (v (pivot (row E i))).0 * entry (row E i) j + (w (pivot (row E i))).0 * entry (row E i) j)
        (λ i l. congruent_trans
        (congruent_mul_right (entry (row E i) j)
        (congruent_mod ((v (pivot (row E i))).0 + (w (pivot (row E i))).0))) (congruent_eq (omega arith))))
        (congruent_eq
        (sum_below-add (length E) (λ i. (v (pivot (row E i))).0 * entry (row E i) j)
        (λ i. (w (pivot (row E i))).0 * entry (row E i) j))))))
        (congruent_eq (let e : ((v j).0 + (w j).0) + q * (taken v j + taken w j) ≡ number v j + number w j =
        omega arith in e))

    pub remainder-add : (v w : Vector q) → remainder ((vectors q mul).add v w)
        ≡ (vectors q mul).add (remainder v) (remainder w)
    unfolding remainder
    remainder-add v w =
        fun_ext (λ j. residue-same q (number-add v w j) ∙ sym (plus-residue q (number v j) (number w j)))

    -- what is in the span leaves 0
    pub remainder-of-member : IsEchelon E → (v : Vector q) → IsInSpan (suc q) E (λ j. (v j).0)
        → remainder v ≡ (vectors q mul).zero
    unfolding remainder
    remainder-of-member e v s = fun_ext (λ j. residue-same q (gone j))
      where
        same : (j : ℕ) → IsCongruent (suc q) (taken v j) (v j).0
        same j = congruent_trans
            (sum_below-congruent (suc q) (length E) (λ i. (v (pivot (row E i))).0 * entry (row E i) j)
            (λ i. s.0 i * entry (row E i) j)
            (λ i l. congruent_mul_right (entry (row E i) j)
            (congruent_sym
            (coefficient_at_pivot (suc q) (length E) s.0 (λ i j. entry (row E i) j) (λ i. pivot (row E i))
            (λ j. (v j).0)
            (HasPivots-from_echelon e) (Combines-from_combination s.1) i l))))
            (s.1.each j)

        gone : (j : ℕ) → IsCongruent (suc q) (number v j) 0
        gone j = congruent_trans (congruent_add (congruent_refl (v j).0) (congruent_mul_left q (same j)))
            (to_congruent 0 (v j).0 (omega arith))

    -- what leaves 0 is in the span
    pub member-of-remainder : (v : Vector q) → remainder v ≡ (vectors q mul).zero
        → IsInSpan (suc q) E (λ j. (v j).0)
    unfolding remainder
    member-of-remainder v z = ((λ i. (v (pivot (row E i))).0), record { each = at })
      where
        gone : (j : ℕ) → IsCongruent (suc q) (number v j) 0
        gone j = record { same_remainder = ap (λ (x : Vector q). (x j).0) z }

        at : (j : ℕ) → IsCongruent (suc q) (taken v j) (v j).0
        at j = congruent_trans
            (congruent_sym
            (congruent_trans (congruent_add (congruent_refl (taken v j)) (gone j))
            (congruent_eq (omega arith))))
            (to_congruent 0 (taken v j) (omega arith))

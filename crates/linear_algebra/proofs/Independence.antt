-- Independent rows: no more of them than rows that span them; as many as there are places span everything.
use Rattle.std.proofs.Common.{◌≡◌, ◌≢◌, ℕ, zero, suc, ◌+◌, ◌*◌, ◌-◌, ◌%◌, ◌<◌, ◌≤◌, ◌⊎◌, inl, inr, arith, ◌∙◌}
use Rattle.std.proofs.lemmas.Bool.{cases_lt}
use Rattle.std.proofs.Math.Nat.{zero-mod}
use Rattle.linear_algebra.specs.Modular.{IsCongruent, IsFieldModulo, sum_below}
use Rattle.linear_algebra.proofs.Congruences.{congruent_refl, congruent_add, congruent_trans, congruent_eq}
use Rattle.linear_algebra.proofs.Congruences.{congruent_sym, congruent_mul_left, congruent_mul_right}
use Rattle.linear_algebra.proofs.Congruences.{congruent_minus, congruent_cancel}
use Rattle.linear_algebra.proofs.Sums.{sum_below-vanishes, sum_below-congruent, sum_below-same, sum_below-mul}
use Rattle.linear_algebra.proofs.Sums.{sum_below-swap}
use Rattle.linear_algebra.proofs.Pivots.{Combines}
use Rattle.linear_algebra.proofs.Dimension.{Dependence, dependent}

pub record Independent (p m : ℕ) (R : ℕ → ℕ → ℕ) : Type 0 where
  pub only_zero : (u : ℕ → ℕ) → ((j : ℕ) → IsCongruent p (sum_below m (λ i. u i * R i j)) 0) → (i : ℕ) → i < m
      → IsCongruent p (u i) 0

-- the product of a row with a product of matrices: the sums may be exchanged
pub combine_combinations : (p m n : ℕ) (u : ℕ → ℕ) (C R V : ℕ → ℕ → ℕ)
    → ((i : ℕ) → i < m → Combines p n (C i) R (V i)) →
    Combines p n (λ k. sum_below m (λ i. u i * C i k)) R (λ j. sum_below m (λ i. u i * V i j))
combine_combinations p m n u C R V h = record {
  each = λ j.
      congruent_trans (congruent_eq (sum_below-same n (λ k. sum_below m (λ i. u i * C i k) * R k j)
      (λ k. sum_below m (λ i. u i * C i k * R k j)) (λ k b. right m (λ i. u i * C i k) (R k j))
      ∙ sum_below-swap n m (λ k i. u i * C i k * R k j)))
      (sum_below-congruent p m (λ i. sum_below n (λ k. u i * C i k * R k j)) (λ i. u i * V i j) (λ i b.
      congruent_trans (congruent_eq (sum_below-same n (λ k. u i * C i k * R k j) (λ k. u i * (C i k * R k j))
      (λ k d. omega arith) ∙ sum_below-mul n (u i) (λ k. C i k * R k j)))
      (congruent_mul_left (u i) ((h i b).each j))));
}
  where
    right : (n : ℕ) (f : ℕ → ℕ) (c : ℕ) → sum_below n f * c ≡ sum_below n (λ i. f i * c)
    right zero f c = omega arith
    right (suc n) f c = omega (arith, right n f c)

-- m independent rows in the span of n rows: m is at most n
pub independent_le : {p : ℕ} → IsFieldModulo p → (m n : ℕ) (C R V : ℕ → ℕ → ℕ) → Independent p m V →
    ((i : ℕ) → i < m → Combines p n (C i) R (V i)) → m ≤ n
independent_le {p} F m n C R V I h = go (cases_lt n m)
  where
    bad : Dependence p m n C → ⊥
    bad D = D.nonzero ((I.only_zero D.coefficients
        (λ j. congruent_trans (congruent_sym ((combine_combinations p m n D.coefficients C R V h).each j))
        (sum_below-vanishes p n (λ k. sum_below m (λ i. D.coefficients i * C i k) * R k j)
        (λ k b. congruent_trans (congruent_mul_right (R k j) (D.vanishes k b)) (congruent_eq (omega arith)))))
        D.place D.below).same_remainder ∙ zero-mod p)

    go : (n < m) ⊎ (m ≤ n) → m ≤ n
    go (inl l) = absurd (bad (dependent F n m C l))
    go (inr l) = l

-- v is a combination where v and the independent rows are dependent
pub combines_from_dependence : {p : ℕ} → IsFieldModulo p → (n : ℕ) (R : ℕ → ℕ → ℕ) (v u : ℕ → ℕ) (c : ℕ)
    → Independent p n R →
    ((j : ℕ) → IsCongruent p (sum_below n (λ i. u i * R i j) + c * v j) 0) → c % p ≢ 0 → (a : ℕ → ℕ)
    × Combines p n a R v
combines_from_dependence {p} F n R v u c I h ne = let b = F.inverse c ne in (
  (λ i. (p - 1) * (b.0 * u i)),
  record {
    each = λ j.
        congruent_trans (congruent_eq (sum_below-same n (λ i. (p - 1) * (b.0 * u i) * R i j)
        (λ i. (p - 1) * b.0 * (u i * R i j)) (λ i l. omega arith)
        ∙ sum_below-mul n ((p - 1) * b.0) (λ i. u i * R i j)))
        (negated (sum_below n (λ i. u i * R i j)) c (v j) b.0 (h j) b.1);
  },
)
  where
    negated : (s c x b : ℕ) → IsCongruent p (s + c * x) 0 → IsCongruent p (c * b) 1
        → IsCongruent p ((p - 1) * b * s) x
    negated s c x b e i = congruent_cancel ((p - 1) * b * (c * x))
        (congruent_trans (congruent_eq (omega arith))
        (congruent_trans (congruent_mul_left ((p - 1) * b) e)
        (congruent_trans (congruent_eq (omega arith))
        (congruent_sym (congruent_trans (congruent_add (congruent_refl x)
        (congruent_trans (congruent_eq (omega arith))
        (congruent_trans (congruent_mul_left ((p - 1) * x) i) (congruent_eq (omega arith)))))
        (congruent_minus x F.above_one))))))

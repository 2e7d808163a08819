use Rattle.std.proofs.Common.{◌≡◌, ℕ, zero, suc, ◌+◌, ◌*◌, ◌-◌, ◌<◌, arith}
use Rattle.linear_algebra.specs.Modular.{IsCongruent, sum_below}
use Rattle.linear_algebra.proofs.Congruences.{congruent_refl, congruent_add, congruent_trans, congruent_eq}
use Rattle.linear_algebra.proofs.Congruences.{congruent_sym, congruent_mul_left, congruent_mul_right}
use Rattle.linear_algebra.proofs.Congruences.{congruent_minus, congruent_cancel}
use Rattle.linear_algebra.proofs.Sums.{sum_below-congruent}
use Rattle.linear_algebra.proofs.Pivots.{Combines, HasPivots, zero_at_pivots}
use Rattle.linear_algebra.specs.Maps.{IsLinear, times_matrix}

-- a map by a matrix is linear
pub matrix_is_linear : (p m : ℕ) (R : ℕ → ℕ → ℕ) → IsLinear p (times_matrix m R)
matrix_is_linear p m R = record {
  same = λ x y h j. sum_below-congruent p m (λ i. x i * R i j) (λ i. y i * R i j)
      (λ i l. congruent_mul_right (R i j) (h i));
  add = λ x y c j. congruent_eq (apart m c x y (λ i. R i j));
}
  where
    apart : (n c : ℕ) (u w r : ℕ → ℕ) → sum_below n (λ i. (u i + c * w i) * r i) ≡ sum_below n
        (λ i. u i * r i) + c * sum_below n (λ i. w i * r i)
    apart zero c u w r = omega arith
    apart (suc n) c u w r = omega (arith, apart n c u w r)

pub linear_zero : {p : ℕ} {f : (ℕ → ℕ) → ℕ → ℕ} → IsLinear p f → (j : ℕ) → IsCongruent p (f (λ k. 0) j) 0
linear_zero {p} {f} L j = congruent_sym (congruent_cancel (f (λ k. 0) j)
    (congruent_trans (congruent_eq (omega arith))
    (congruent_trans (L.same (λ k. 0) (λ k. 0 + 1 * 0) (λ k. congruent_eq (omega arith)) j)
    (congruent_trans (L.add (λ k. 0) (λ k. 0) 1 j) (congruent_eq (omega arith))))))

-- a linear map of a combination
pub linear_sum : {p : ℕ} {f : (ℕ → ℕ) → ℕ → ℕ} → IsLinear p f → (n : ℕ) (u : ℕ → ℕ) (R : ℕ → ℕ → ℕ) (j : ℕ) →
    IsCongruent p (f (λ k. sum_below n (λ i. u i * R i k)) j) (sum_below n (λ i. u i * f (R i) j))
linear_sum L zero u R j = linear_zero L j
linear_sum {p} {f} L (suc n) u R j = congruent_trans
    (L.add (λ k. sum_below n (λ i. u i * R i k)) (R n) (u n) j)
    (congruent_add (linear_sum L n u R j) (congruent_refl (u n * f (R n) j)))

-- x and y with x - y in the span and both 0 at the pivots are the same: the image and the zeros determine a
-- vector
pub same_from_image : {p : ℕ} {f : (ℕ → ℕ) → ℕ → ℕ} → 1 < p → IsLinear p f
    → (m : ℕ) (q : ℕ → ℕ) (R : ℕ → ℕ → ℕ) → HasPivots m q R →
    ((z : ℕ → ℕ) → ((j : ℕ) → IsCongruent p (f z j) 0) → (u : ℕ → ℕ) × Combines p m u R z) →
    (x y : ℕ → ℕ) → ((j : ℕ) → IsCongruent p (f x j) (f y j)) → ((k : ℕ) → k < m → IsCongruent p (x (q k)) 0)
    → ((k : ℕ) → k < m → IsCongruent p (y (q k)) 0) →
    (j : ℕ) → IsCongruent p (x j) (y j)
same_from_image {p} {f} l L m q R P kernel x y e zx zy j = congruent_cancel ((p - 1) * y j)
    (congruent_trans (zero_at_pivots p m c.0 R q z P c.1
    (λ k b. congruent_trans (congruent_add (zx k b) (congruent_mul_left (p - 1) (zy k b)))
    (congruent_eq (omega arith))) j)
    (congruent_sym (congruent_minus (y j) l)))
  where
    z : ℕ → ℕ
    z k = x k + (p - 1) * y k

    c : (u : ℕ → ℕ) × Combines p m u R z
    c = kernel z (λ i. congruent_trans (L.add x y (p - 1) i)
        (congruent_trans (congruent_add (e i) (congruent_refl ((p - 1) * f y i)))
        (congruent_minus (f y i) l)))

-- a section that is 0 at the pivots of the kernel is linear
pub section_is_additive : {p : ℕ} {f s : (ℕ → ℕ) → ℕ → ℕ} → 1 < p → IsLinear p f
    → (m : ℕ) (q : ℕ → ℕ) (R : ℕ → ℕ → ℕ) → HasPivots m q R →
    ((z : ℕ → ℕ) → ((j : ℕ) → IsCongruent p (f z j) 0) → (u : ℕ → ℕ) × Combines p m u R z) →
    (IsImage : (ℕ → ℕ) → Type 0) → ((x : ℕ → ℕ) → IsImage x → (j : ℕ) → IsCongruent p (f (s x) j) (x j))
    → ((x : ℕ → ℕ) → IsImage x → (k : ℕ) → k < m → IsCongruent p (s x (q k)) 0) →
    (x y : ℕ → ℕ) (c : ℕ) → IsImage x → IsImage y → IsImage (λ k. x k + c * y k) → (j : ℕ)
    → IsCongruent p (s (λ k. x k + c * y k) j) (s x j + c * s y j)
section_is_additive {p} {f} {s} l L m q R P kernel Im back zero_at x y c a b d =
    same_from_image l L m q R P kernel (s (λ k. x k + c * y k)) (λ k. s x k + c * s y k)
    (λ j. congruent_trans (back (λ k. x k + c * y k) d j)
    (congruent_sym (congruent_trans (L.add (s x) (s y) c j)
    (congruent_add (back x a j) (congruent_mul_left c (back y b j))))))
    (λ k h. zero_at (λ k. x k + c * y k) d k h)
    (λ k h. congruent_trans (congruent_add (zero_at x a k h) (congruent_mul_left c (zero_at y b k h)))
    (congruent_eq (omega arith)))

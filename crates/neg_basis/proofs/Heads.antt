-- Numbers below n that are pairwise different: there are at most n.
use Rattle.std.proofs.Common.{◌≡◌, ◌≢◌, ℕ, zero, suc, ◌<◌, ◌≤◌, ◌⊎◌, inl, inr, arith, ap, sym, ◌∙◌}
use Rattle.std.proofs.lemmas.Bool.{cases_eq}
use Rattle.linear_algebra.proofs.Sums.{find_below, update, update_same, update_other}

module _ (n m : ℕ) (f : ℕ → ℕ) (b : (i : ℕ) → i < suc m → f i < suc n) (h : (i k : ℕ) → i < suc m → k < suc m
    → f i ≡ f k → i ≡ k)
    (ih : (k : ℕ) (g : ℕ → ℕ) → ((i : ℕ) → i < k → g i < n) → ((i j : ℕ) → i < k → j < k → g i ≡ g j → i ≡ j)
    → k ≤ n) where
  -- f with its last value in place of the value n
  module _ (t : ℕ) (l : t < suc m) (e : f t ≡ n) where
    below_at : (i : ℕ) → i < m → (i ≡ t) ⊎ (i ≡ t → ⊥) → update t (f m) f i < n
    below_at i c (inl q) = let d : f m ≢ n = λ z. omega (arith, q, h m t (omega arith) l (z ∙ sym e)) in
        rw (q, update_same t (f m) f) (omega (arith, b m (omega arith), d))
    below_at i c (inr q) = let d : f i ≢ n = λ z. q (h i t (omega arith) l (z ∙ sym e)) in
        rw (update_other t (f m) f i q) (omega (arith, b i (omega arith), d))

    one_at : (i k : ℕ) → i < m → k < m → update t (f m) f i ≡ update t (f m) f k → (i ≡ t) ⊎ (i ≡ t → ⊥)
        → (k ≡ t) ⊎ (k ≡ t → ⊥) → i ≡ k
    one_at i k c d q (inl x) (inl y) = x ∙ sym y
    one_at i k c d q (inl x) (inr y) =
        absurd (omega (
          arith,
          h m k (omega arith) (omega arith) (sym (update_same t (f m) f)
              ∙ ap (update t (f m) f) (sym x) ∙ q ∙ update_other t (f m) f k y),
        ))
    one_at i k c d q (inr x) (inl y) =
        absurd (omega (
          arith,
          h i m (omega arith) (omega arith) (sym (update_other t (f m) f i x) ∙ q
              ∙ ap (update t (f m) f) y ∙ update_same t (f m) f),
        ))
    one_at i k c d q (inr x) (inr y) = h i k (omega arith) (omega arith) (sym (update_other t (f m) f i x) ∙ q
        ∙ update_other t (f m) f k y)

  swapped : ((i : ℕ) × (i < suc m) × (f i ≡ n)) ⊎ ((i : ℕ) → i < suc m → f i ≢ n) → suc m ≤ suc n
  swapped (inr none) = let l : suc m ≤ n = ih (suc m) f (λ i l. omega (arith, b i l, none i l)) h in
      omega arith
  swapped (inl (t, l, e)) = let k : m ≤ n = ih m (update t (f m) f) (λ i c. below_at t l e i c (cases_eq i t))
      (λ i k c d q. one_at t l e i k c d q (cases_eq i t) (cases_eq k t)) in omega arith

pub injective_le : (n m : ℕ) (f : ℕ → ℕ) → ((i : ℕ) → i < m → f i < n) → ((i k : ℕ) → i < m → k < m → f i
    ≡ f k → i ≡ k) → m ≤ n
injective_le zero zero f b h = omega arith
injective_le zero (suc m) f b h = absurd (omega (arith, b 0 (omega arith)))
injective_le (suc n) zero f b h = omega arith
injective_le (suc n) (suc m) f b h = swapped n m f b h (λ k g. injective_le n k g) (find_below (suc m) n f)

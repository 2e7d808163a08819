-- Finite sequences of coefficients: sums whose last terms are 0, sequences cut off, and sequences by their
-- number.
use Rattle.std.proofs.Common.{◌≡◌, ℕ, zero, suc, ◌<◌, ◌≤◌, ◌⊎◌, inl, inr, arith, ap, refl}
use Rattle.std.proofs.lemmas.Bool.{cases_lt}
use Rattle.group_modules.specs.Field.{Below}
use Rattle.linear_algebra.proofs.Residues.{below-path}
use Rattle.linear_algebra.specs.Modular.{IsCongruent, sum_below}
use Rattle.linear_algebra.proofs.Congruences.{congruent_add, congruent_trans, congruent_eq}

-- terms that are 0 may be left out at the end
pub sum_below-prefix : (p k m : ℕ) (g : ℕ → ℕ) → k ≤ m → ((i : ℕ) → k ≤ i → i < m → IsCongruent p (g i) 0)
    → IsCongruent p (sum_below m g) (sum_below k g)
sum_below-prefix p k zero g l h = congruent_eq
    (ap (λ x. sum_below x g) (let e : 0 ≡ k = omega (arith, l) in e))
sum_below-prefix p k (suc m) g l h = go (cases_lt m k)
    (λ d. sum_below-prefix p k m g d (λ i c e. h i c (let x : i < suc m = omega (arith, e) in x)))
  where
    go : (m < k) ⊎ (k ≤ m) → (k ≤ m → IsCongruent p (sum_below m g) (sum_below k g))
        → IsCongruent p (sum_below (suc m) g) (sum_below k g)
    go (inl d) ih = congruent_eq (ap (λ x. sum_below x g) (let e : suc m ≡ k = omega (arith, l, d) in e))
    go (inr d) ih = congruent_trans (congruent_add (ih d) (h m d (let x : m < suc m = omega arith in x)))
        (congruent_eq (omega arith))

-- u below k, and 0 from k on
masked-by : (k : ℕ) (u : ℕ → ℕ) (i : ℕ) → (i < k) ⊎ (k ≤ i) → ℕ
masked-by k u i (inl l) = u i
masked-by k u i (inr l) = 0

pub masked : ℕ → (ℕ → ℕ) → ℕ → ℕ
masked k u i = masked-by k u i (cases_lt i k)

pub masked-below : (k : ℕ) (u : ℕ → ℕ) (i : ℕ) → i < k → masked k u i ≡ u i
unfolding masked masked-by
masked-below k u i l = go (cases_lt i k)
  where
    go : (s : (i < k) ⊎ (k ≤ i)) → masked-by k u i s ≡ u i
    go (inl d) = refl
    go (inr d) = absurd (omega (arith, l, d))

pub masked-from : (k : ℕ) (u : ℕ → ℕ) (i : ℕ) → k ≤ i → masked k u i ≡ 0
unfolding masked masked-by
masked-from k u i l = go (cases_lt i k)
  where
    go : (s : (i < k) ⊎ (k ≤ i)) → masked-by k u i s ≡ 0
    go (inl d) = absurd (omega (arith, l, d))
    go (inr d) = refl

-- a sequence of coefficients by their number
sequence-by : {q m : ℕ} → (Below m → Below (suc q)) → (i : ℕ) → (i < m) ⊎ (m ≤ i) → ℕ
sequence-by c i (inl l) = (c (i, l)).0
sequence-by c i (inr l) = 0

pub sequence : {q m : ℕ} → (Below m → Below (suc q)) → ℕ → ℕ
sequence {m = m} c i = sequence-by c i (cases_lt i m)

pub sequence-at : {q m : ℕ} (c : Below m → Below (suc q)) (i : Below m) → (c i).0 ≡ sequence c i.0
unfolding sequence sequence-by
sequence-at {m = m} c i = go (cases_lt i.0 m)
  where
    go : (s : (i.0 < m) ⊎ (m ≤ i.0)) → (c i).0 ≡ sequence-by c i.0 s
    go (inl l) = ap (λ (k : Below m). (c k).0) (below-path i (i.0, l) refl)
    go (inr l) = absurd (let k : i.0 < m = i.1 in omega (arith, k, l))

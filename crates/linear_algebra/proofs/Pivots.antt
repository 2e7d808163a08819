-- Rows as functions of the place, with pivots: the span's coefficients are read at the pivots.
use Rattle.std.proofs.Common.{◌≡◌, ◌≢◌, ℕ, zero, suc, ◌*◌, ◌<◌, ◌≤◌, ◌⊎◌, inl, inr, arith, ap, sym}
use Rattle.std.proofs.lemmas.Bool.{cases_eq, cases_order}
use Rattle.linear_algebra.specs.Modular.{IsCongruent, sum_below}
use Rattle.linear_algebra.proofs.Congruences.{congruent_trans, congruent_eq, congruent_sym}
use Rattle.linear_algebra.proofs.Congruences.{congruent_mul_right}
use Rattle.linear_algebra.proofs.Sums.{sum_below-one, sum_below-vanishes, find_below}

-- v is the combination of m rows R with the coefficients u
pub record Combines (p m : ℕ) (u : ℕ → ℕ) (R : ℕ → ℕ → ℕ) (v : ℕ → ℕ) : Type 0 where
  pub each : (j : ℕ) → IsCongruent p (sum_below m (λ i. u i * R i j)) (v j)

-- the m rows R are a reduced echelon list with the pivots q
pub record HasPivots (m : ℕ) (q : ℕ → ℕ) (R : ℕ → ℕ → ℕ) : Type 0 where
  pub monic : (i : ℕ) → i < m → R i (q i) ≡ 1
  pub cleared : (i k : ℕ) → i < m → k < m → i ≢ k → R k (q i) ≡ 0
  pub before : (i j : ℕ) → i < m → j < q i → R i j ≡ 0
  pub ascending : (i k : ℕ) → i < k → k < m → q i < q k

-- coefficient k stands at pivot k
pub coefficient_at_pivot : (p m : ℕ) (u : ℕ → ℕ) (R : ℕ → ℕ → ℕ) (q v : ℕ → ℕ) → HasPivots m q R →
    Combines p m u R v → (k : ℕ) → k < m → IsCongruent p (u k) (v (q k))
coefficient_at_pivot p m u R q v P c k l =
    congruent_trans (congruent_eq (omega (arith, ap (λ x. u k * x) (P.monic k l))))
    (congruent_trans (congruent_sym (sum_below-one p m k (λ i. u i * R i (q k)) l
    (λ i n ne. congruent_eq (rw (P.cleared k i l n (λ e. ne (sym e))) (omega arith)))))
    (c.each (q k)))

-- a member of the span that is 0 at every pivot is 0
pub zero_at_pivots : (p m : ℕ) (u : ℕ → ℕ) (R : ℕ → ℕ → ℕ) (q v : ℕ → ℕ) → HasPivots m q R →
    Combines p m u R v → ((k : ℕ) → k < m → IsCongruent p (v (q k)) 0) → (j : ℕ) → IsCongruent p (v j) 0
zero_at_pivots p m u R q v P c z j =
    congruent_trans (congruent_sym (c.each j))
    (sum_below-vanishes p m (λ i. u i * R i j)
    (λ i l. congruent_trans (congruent_mul_right (R i j)
    (congruent_trans (coefficient_at_pivot p m u R q v P c i l) (z i l)))
    (congruent_eq (omega arith))))

-- the first place at which a member of the span is not 0 is a pivot
pub first_place_is_pivot : (p m : ℕ) (u : ℕ → ℕ) (R : ℕ → ℕ → ℕ) (q v : ℕ → ℕ) → HasPivots m q R →
    Combines p m u R v → (t : ℕ) → ((j : ℕ) → j < t → IsCongruent p (v j) 0) → (IsCongruent p (v t) 0 → ⊥) →
    (i : ℕ) × (i < m) × (q i ≡ t)
first_place_is_pivot p m u R q v P c t before here = go (find_below m t q)
  where
    term : ((i : ℕ) → i < m → q i ≢ t) → (i : ℕ) → i < m → (q i ≡ t) ⊎ ((q i < t) ⊎ (t < q i))
        → IsCongruent p (u i * R i t) 0
    term none i l (inl e) = absurd (none i l e)
    term none i l (inr (inl b)) = congruent_trans (congruent_mul_right (R i t)
        (congruent_trans (coefficient_at_pivot p m u R q v P c i l) (before (q i) b)))
        (congruent_eq (omega arith))
    term none i l (inr (inr a)) = congruent_eq (rw (P.before i t l a) (omega arith))

    go : ((i : ℕ) × (i < m) × (q i ≡ t)) ⊎ ((i : ℕ) → i < m → q i ≢ t) → (i : ℕ) × (i < m) × (q i ≡ t)
    go (inl f) = f
    go (inr none) = absurd (here (congruent_trans (congruent_sym (c.each t))
        (sum_below-vanishes p m (λ i. u i * R i t) (λ i l. term none i l (cases_order (q i) t)))))

-- two ascending sequences with the same values
pub record SameValues (m : ℕ) (q : ℕ → ℕ) (n : ℕ) (s : ℕ → ℕ) : Type 0 where
  pub left : (i : ℕ) → i < m → (k : ℕ) × (k < n) × (s k ≡ q i)
  pub right : (k : ℕ) → k < n → (i : ℕ) × (i < m) × (q i ≡ s k)
  pub up_left : (i k : ℕ) → i < k → k < m → q i < q k
  pub up_right : (i k : ℕ) → i < k → k < n → s i < s k

pub same_values_flip : {m n : ℕ} {q s : ℕ → ℕ} → SameValues m q n s → SameValues n s m q
same_values_flip h = record { left = h.right; right = h.left; up_left = h.up_right; up_right = h.up_left }

-- at i: where all earlier values agree, i is below n and q i is at least s i
pub same_values_step : {m n : ℕ} {q s : ℕ → ℕ} → SameValues m q n s → (i : ℕ) → i < m →
    ((k : ℕ) → k < i → q k ≡ s k) → (i < n) × (s i ≤ q i)
same_values_step {m} {n} {q} {s} h i l before = go (h.left i l)
  where
    later : (k : ℕ) → k < n → s k ≡ q i → (i ≡ k) ⊎ ((i < k) ⊎ (k < i)) → (i < n) × (s i ≤ q i)
    later k b e (inl f) = (rw f b, omega (arith, ap s f))
    later k b e (inr (inl f)) = (omega arith, omega (arith, h.up_right i k f b))
    later k b e (inr (inr f)) = absurd (omega (arith, h.up_left k i f l, before k f))

    go : (k : ℕ) × (k < n) × (s k ≡ q i) → (i < n) × (s i ≤ q i)
    go (k, b, e) = later k b e (cases_order i k)

pub same_values_upto : {m n : ℕ} {q s : ℕ → ℕ} → SameValues m q n s → (t : ℕ) → t ≤ m → (i : ℕ) → i < t
    → (i < n) × (q i ≡ s i)
same_values_upto h zero l i b = absurd (omega arith)
same_values_upto {m} {n} {q} {s} h (suc t) l i b = go (cases_eq i t) (same_values_upto h t (omega arith))
  where
    at_t : ((i : ℕ) → i < t → (i < n) × (q i ≡ s i)) → (t < n) × (q t ≡ s t)
    at_t ih = let one = same_values_step h t (omega arith) (λ k c. (ih k c).1) in
        let two = same_values_step (same_values_flip h) t one.0 (λ k c. sym (ih k c).1) in
        (one.0, omega arith)

    go : (i ≡ t) ⊎ (i ≡ t → ⊥) → ((i : ℕ) → i < t → (i < n) × (q i ≡ s i)) → (i < n) × (q i ≡ s i)
    go (inl e) ih = rw e (at_t ih)
    go (inr ne) ih = ih i (omega arith)

pub same_values_count : {m n : ℕ} {q s : ℕ → ℕ} → SameValues m q n s → m ≡ n
same_values_count {m} {n} {q} {s} h = go (cases_order m n)
  where
    go : (m ≡ n) ⊎ ((m < n) ⊎ (n < m)) → m ≡ n
    go (inl e) = e
    go (inr (inl l)) = absurd (omega (arith, (same_values_upto (same_values_flip h) n (omega arith) m l).0))
    go (inr (inr l)) = absurd (omega (arith, (same_values_upto h m (omega arith) n l).0))

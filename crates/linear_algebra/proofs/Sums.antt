use Rattle.std.proofs.Common.{◌≡◌, ◌≢◌, ℕ, zero, suc, ◌+◌, ◌*◌, ◌<◌, ◌⊎◌, inl, inr, ⊎_elim, eqb, cond, arith}
use Rattle.std.proofs.Common.{ap, sym, ◌∙◌, refl}
use Rattle.std.proofs.lemmas.Bool.{cases_eq}
use Rattle.std.proofs.lemmas.Bool.Decides.{nat_tests}
use Rattle.linear_algebra.specs.Modular.{IsCongruent, sum_below}
use Rattle.linear_algebra.proofs.Congruences.{congruent_refl, congruent_add, congruent_trans, congruent_eq}

pub sum_below-add : (n : ℕ) (f g : ℕ → ℕ) → sum_below n (λ i. f i + g i) ≡ sum_below n f + sum_below n g
sum_below-add zero f g = omega arith
sum_below-add (suc n) f g = omega (arith, sum_below-add n f g)

pub sum_below-mul : (n c : ℕ) (f : ℕ → ℕ) → sum_below n (λ i. c * f i) ≡ c * sum_below n f
sum_below-mul zero c f = omega arith
sum_below-mul (suc n) c f = omega (arith, sum_below-mul n c f)

pub sum_below-zero : (n : ℕ) → sum_below n (λ i. 0) ≡ 0
sum_below-zero zero = refl
sum_below-zero (suc n) = omega (arith, sum_below-zero n)

pub sum_below-swap : (m n : ℕ) (f : ℕ → ℕ → ℕ) →
    sum_below m (λ i. sum_below n (f i)) ≡ sum_below n (λ j. sum_below m (λ i. f i j))
sum_below-swap zero n f = sym (sum_below-zero n)
sum_below-swap (suc m) n f =
    ap (λ x. x + sum_below n (f m)) (sum_below-swap m n f)
    ∙ sym (sum_below-add n (λ j. sum_below m (λ i. f i j)) (f m))

-- equal terms, equal sums
pub sum_below-same : (n : ℕ) (f g : ℕ → ℕ) → ((i : ℕ) → i < n → f i ≡ g i) → sum_below n f ≡ sum_below n g
sum_below-same zero f g h = refl
sum_below-same (suc n) f g h = omega (
  arith,
  sum_below-same n f g (λ i k. h i (omega arith)),
  h n (omega arith),
)

pub sum_below-congruent : (p n : ℕ) (f g : ℕ → ℕ) → ((i : ℕ) → i < n → IsCongruent p (f i) (g i)) →
    IsCongruent p (sum_below n f) (sum_below n g)
sum_below-congruent p zero f g h = congruent_refl 0
sum_below-congruent p (suc n) f g h =
    congruent_add (sum_below-congruent p n f g (λ i k. h i (omega arith))) (h n (omega arith))

-- a sum of terms that are 0
pub sum_below-vanishes : (p n : ℕ) (f : ℕ → ℕ) → ((i : ℕ) → i < n → IsCongruent p (f i) 0) →
    IsCongruent p (sum_below n f) 0
sum_below-vanishes p n f h = congruent_trans (sum_below-congruent p n f (λ i. 0) h)
    (congruent_eq (sum_below-zero n))

-- a sum with one term that is not 0
pub sum_below-one : (p n k : ℕ) (f : ℕ → ℕ) → k < n → ((i : ℕ) → i < n → i ≢ k → IsCongruent p (f i) 0) →
    IsCongruent p (sum_below n f) (f k)
sum_below-one p zero k f l h = absurd (omega arith)
sum_below-one p (suc n) k f l h = go (cases_eq k n) (sum_below-one p n k f)
  where
    go : (k ≡ n) ⊎ (k ≡ n → ⊥) → (k < n → ((i : ℕ) → i < n → i ≢ k → IsCongruent p (f i) 0) →
        IsCongruent p (sum_below n f) (f k)) → IsCongruent p (sum_below n f + f n) (f k)
    go (inl e) ih = rw e (congruent_trans
        (congruent_add (sum_below-vanishes p n f (λ i m. h i (omega arith) (omega arith)))
        (congruent_refl (f n)))
        (congruent_eq (omega arith)))
    go (inr ne) ih = congruent_trans
        (congruent_add (ih (omega arith) (λ i m. h i (omega arith))) (h n (omega arith) (omega arith)))
        (congruent_eq (omega arith))

-- f with the value x at k
abbrev pub update : ℕ → ℕ → (ℕ → ℕ) → ℕ → ℕ
update k x f i = cond (eqb i k) x (f i)

pub update_same : (k x : ℕ) (f : ℕ → ℕ) → update k x f k ≡ x
update_same k x f = grind (arith, nat_tests)

pub update_other : (k x : ℕ) (f : ℕ → ℕ) (i : ℕ) → i ≢ k → update k x f i ≡ f i
update_other k x f i h = grind (arith, nat_tests)

pub sum_below-update : (n k x : ℕ) (f : ℕ → ℕ) → k < n → sum_below n (update k x f) + f k ≡ sum_below n f + x
sum_below-update zero k x f l = absurd (omega arith)
sum_below-update (suc n) k x f l = go (cases_eq k n) (sum_below-update n k x f)
  where
    go : (k ≡ n) ⊎ (k ≡ n → ⊥) → (k < n → sum_below n (update k x f) + f k ≡ sum_below n f + x) →
        sum_below n (update k x f) + update k x f n + f k ≡ sum_below n f + f n + x
    go (inl e) ih = rw e (omega (
      arith,
      update_same n x f,
      sum_below-same n (update n x f) f (λ i m. update_other n x f i (omega arith)),
    ))
    go (inr ne) ih = omega (arith, ih (omega arith), update_other k x f n (omega arith))

-- the first number below n at which f is t
pub find_below : (n t : ℕ) (f : ℕ → ℕ) → ((i : ℕ) × (i < n) × (f i ≡ t)) ⊎ ((i : ℕ) → i < n → f i ≢ t)
find_below zero t f = inr (λ i l. absurd (omega arith))
find_below (suc n) t f = go (cases_eq (f n) t) (find_below n t f)
  where
    go : (f n ≡ t) ⊎ (f n ≡ t → ⊥) → ((i : ℕ) × (i < n) × (f i ≡ t)) ⊎ ((i : ℕ) → i < n → f i ≢ t) →
        ((i : ℕ) × (i < suc n) × (f i ≡ t)) ⊎ ((i : ℕ) → i < suc n → f i ≢ t)
    go (inl e) ih = inl (n, omega arith, e)
    go (inr ne) (inl (i, l, e)) = inl (i, omega arith, e)
    go (inr ne) (inr h) = inr (λ i l. ⊎_elim (λ (e : i ≡ n). rw e ne) (λ (d : i ≡ n → ⊥). h i (omega arith))
        (cases_eq i n))

-- a sum in two parts
pub sum_below-parts : (k l : ℕ) (f : ℕ → ℕ)
    → sum_below (k + l) f ≡ sum_below k f + sum_below l (λ i. f (k + i))
sum_below-parts k zero f = rw (let e : k + 0 ≡ k = omega arith in e) (omega arith)
sum_below-parts k (suc l) f = rw (let e : k + suc l ≡ suc (k + l) = omega arith in e)
    (omega (arith, sum_below-parts k l f))

-- A one-to-one map goes to a set with at least as many members.
use Rattle.std.specs.Prelude.{◌≡◌, ℕ, zero, suc, ◌*◌, ◌<◌, ◌≤◌, ◌⊎◌, ◌^◌, true, false}
use Rattle.std.proofs.Common.{sym, ◌∙◌, ap, arith, inl, inr}
use Rattle.std.proofs.Math.Nat.{pow-suc, pow-zero, le_refl}
use Rattle.std.proofs.lemmas.Bool.{cases_lt}
use Rattle.std.proofs.lemmas.Nat.{mul-le}
use Rattle.group_modules.specs.Field.{Below}
use Rattle.augmentation_ideal.proofs.Finite.{bit, sum, tell, sum-same, sum-zero, sum-le, sum-swap, sum-map}
use Rattle.augmentation_ideal.proofs.Finite.{sum-pairs, sum-scale, Finite, same-of, search-all, finite-below}
use Rattle.augmentation_ideal.proofs.Finite.{size-below, finite-function, pairs, join-function}

module _ {A B : Type 0} (F : Finite A) (H : Finite B) (f : A → B) (one-to-one : (x y : A) → f x ≡ f y
    → x ≡ y) where
  fibre : (y : B) → sum F.all (λ x. bit (H.same (f x) y)) ≤ 1
  fibre y = at (search-all F (λ x. H.same (f x) y))
    where
      at : ((x : A) × (H.same (f x) y ≡ true)) ⊎ ((x : A) → H.same (f x) y ≡ false)
          → sum F.all (λ x. bit (H.same (f x) y)) ≤ 1
      at (inr none) = rw (sum-same F.all (λ x. bit (H.same (f x) y)) (λ x. 0) (λ x. ap bit (none x))
          ∙ sum-zero F.all) (let z : 0 ≤ 1 = omega arith in z)
      at (inl r) = rw (sym (F.once r.0))
          (sum-le F.all (λ x. bit (H.same (f x) y)) (λ x. bit (F.same r.0 x))
          (λ x. le x (tell (H.same (f x) y))))
        where
          le : (x : A) → (H.same (f x) y ≡ true) ⊎ (H.same (f x) y ≡ false)
              → bit (H.same (f x) y) ≤ bit (F.same r.0 x)
          le x (inl k) = rw (
            k,
            same-of F r.0 x
                (one-to-one r.0 x (H.same-path (f r.0) y r.1 ∙ sym (H.same-path (f x) y k))),
          ) (le_refl 1)
          le x (inr k) = rw k (let z : 0 ≤ bit (F.same r.0 x) = omega arith in z)

  pub fewer-members : sum F.all (λ x. 1) ≤ sum H.all (λ y. 1)
  fewer-members =
      rw (sum-same F.all (λ x. 1) (λ x. sum H.all (λ y. bit (H.same (f x) y))) (λ x. sym (H.once (f x)))
      ∙ sum-swap F.all H.all (λ x y. bit (H.same (f x) y)))
      (sum-le H.all (λ y. sum F.all (λ x. bit (H.same (f x) y))) (λ y. 1) fibre)

pub size-function : {A : Type 0} (F : Finite A) (b : ℕ)
    → sum (finite-function F b).all (λ x. 1) ≡ (sum F.all (λ x. 1)) ^ b
size-function F zero = sym (pow-zero (sum F.all (λ x. 1)))
size-function F (suc b) =
    sum-map (join-function b) (pairs F.all (finite-function F b).all) (λ x. 1)
    ∙ sum-pairs F.all (finite-function F b).all (λ x. 1)
    ∙ sum-same F.all (λ x. sum (finite-function F b).all (λ y. 1)) (λ x. 1 * (sum F.all (λ x. 1)) ^ b)
    (λ x. size-function F b ∙ (let k : (sum F.all (λ x. 1)) ^ b ≡ 1 *
    (sum F.all (λ x. 1)) ^ b = omega arith in k))
    ∙ sum-scale F.all (λ x. 1) ((sum F.all (λ x. 1)) ^ b)
    ∙ (let k : sum F.all (λ x. 1) * (sum F.all (λ x. 1)) ^ b ≡ (sum F.all (λ x. 1)) ^ b * sum F.all
    (λ x. 1) = omega arith in k) ∙ sym (pow-suc (sum F.all (λ x. 1)) b)

pow-pos : (p m : ℕ) → 1 < p → 1 ≤ p ^ m
pow-pos p zero h = rw (pow-zero p) (le_refl 1)
pow-pos p (suc m) h = rw (pow-suc p m) (mul-le 1 1 (p ^ m) p (pow-pos p m h)
    (let z : 1 ≤ p = omega arith in z))

pow-step : (p m : ℕ) → 1 < p → p ^ m < p ^ suc m
pow-step p m h = less (p ^ m) (p ^ suc m) (pow-pos p m h)
    (rw (pow-suc p m) (mul-le (p ^ m) 2 (p ^ m) p (le_refl (p ^ m)) h))
  where
    less : (a b : ℕ) → 1 ≤ a → a * 2 ≤ b → a < b
    less a b u v = omega arith

pow-up : (p m l : ℕ) → 1 < p → l < m → p ^ l < p ^ m
pow-up p zero l h k = absurd (omega arith)
pow-up p (suc m) l h k = at (cases_lt l m) (λ i. pow-up p m l h i) (pow-step p m h)
  where
    at : (l < m) ⊎ (m ≤ l) → (l < m → p ^ l < p ^ m) → p ^ m < p ^ suc m → p ^ l < p ^ suc m
    at (inl i) ih s = less (p ^ l) (p ^ m) (p ^ suc m) (ih i) s
      where
        less : (a b c : ℕ) → a < b → b < c → a < c
        less a b c u v = omega arith
    at (inr i) ih s = rw (let e : l ≡ m = omega arith in e) s

-- a one-to-one map of F_p^m to F_p^l has m at most l
pub dimension-le : (p m l : ℕ) → 1 < p → (f : (Below m → Below p) → Below l → Below p)
    → ((x y : Below m → Below p) → f x ≡ f y → x ≡ y) → m ≤ l
dimension-le p m l h f i = at (cases_lt l m)
  where
    whole : (b : ℕ) → sum (finite-function (finite-below p) b).all (λ x. 1) ≡ p ^ b
    whole b = size-function (finite-below p) b ∙ ap (λ k. k ^ b) (size-below p)

    at : (l < m) ⊎ (m ≤ l) → m ≤ l
    at (inr k) = k
    at (inl k) = absurd (no-way (p ^ m) (p ^ l) (pow-up p m l h k)
        (rw (sym (whole m), sym (whole l))
        (fewer-members (finite-function (finite-below p) m) (finite-function (finite-below p) l) f i)))
      where
        no-way : (a b : ℕ) → b < a → a ≤ b → ⊥
        no-way a b u v = omega arith

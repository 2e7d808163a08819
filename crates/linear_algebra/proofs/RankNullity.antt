-- A list of independent vectors in the kernel with the kernel's dimension spans the kernel.
use Rattle.std.proofs.Common.{◌≡◌, ◌≢◌, ℕ, suc, ◌+◌, ◌*◌, ◌-◌, ◌%◌, ◌<◌, ◌≤◌, ◌⊎◌, inl, inr, cond, ltb, arith}
use Rattle.std.proofs.Common.{ap, sym, ◌∙◌}
use Rattle.std.proofs.lemmas.Bool.{cases_lt, cases_order}
use Rattle.std.proofs.lemmas.Bool.Decides.{nat_tests}
use Rattle.std.proofs.Math.Nat.{zero-mod}
use Rattle.linear_algebra.specs.Modular.{IsCongruent, IsFieldModulo, sum_below}
use Rattle.linear_algebra.proofs.Congruences.{congruent_refl, congruent_add, congruent_trans, congruent_eq}
use Rattle.linear_algebra.proofs.Congruences.{congruent_sym, congruent_mul_left, congruent_mul_right}
use Rattle.linear_algebra.proofs.Sums.{sum_below-parts, sum_below-same, sum_below-congruent}
use Rattle.linear_algebra.proofs.Sums.{sum_below-vanishes}
use Rattle.linear_algebra.proofs.Pivots.{Combines}
use Rattle.linear_algebra.proofs.Dimension.{Dependence, dependent}
use Rattle.linear_algebra.proofs.Independence.{Independent, combines_from_dependence}
use Rattle.linear_algebra.specs.Maps.{IsLinear}
use Rattle.linear_algebra.proofs.LinearMaps.{linear_sum, linear_zero}

-- the k vectors E and then the vectors U
abbrev pub joined : ℕ → (ℕ → ℕ → ℕ) → (ℕ → ℕ → ℕ) → ℕ → ℕ → ℕ
joined k E U i j = cond (ltb i k) (E i j) (U (i - k) j)

joined_left : (k : ℕ) (E U : ℕ → ℕ → ℕ) (i j : ℕ) → i < k → joined k E U i j ≡ E i j
joined_left k E U i j l = grind (arith, nat_tests)

joined_right : (k : ℕ) (E U : ℕ → ℕ → ℕ) (i j : ℕ) → joined k E U (k + i) j ≡ U i j
joined_right k E U i j = at (cases_lt (k + i) k) (let e : k + i - k ≡ i = omega arith in e)
  where
    at : (k + i < k) ⊎ (k ≤ k + i) → k + i - k ≡ i → joined k E U (k + i) j ≡ U i j
    at (inl l) e = absurd (omega arith)
    at (inr l) e = falls l ∙ ap (λ x. U x j) e
      where
        falls : k ≤ k + i → cond (ltb (k + i) k) (E (k + i) j) (U (k + i - k) j) ≡ U (k + i - k) j
        falls l = grind (arith, nat_tests)

drop_last : {p : ℕ} (s c x : ℕ) → IsCongruent p c 0 → IsCongruent p (s + c * x) 0 → IsCongruent p s 0
drop_last {p} s c x h e = let z : IsCongruent p (c * x) 0 =
    congruent_trans (congruent_mul_right x h) (congruent_eq (omega arith)) in
    congruent_trans (congruent_sym (congruent_trans (congruent_add (congruent_refl s) z)
    (congruent_eq (omega arith)))) e

module _ {p : ℕ} (F : IsFieldModulo p) {f : (ℕ → ℕ) → ℕ → ℕ} (L : IsLinear p f) (k l : ℕ) (E U R : ℕ → ℕ → ℕ)
    (indE : Independent p k E) (kerE : (i : ℕ) → i < k → (j : ℕ) → IsCongruent p (f (E i) j) 0)
    (indR : Independent p l R) (image : (i : ℕ) → i < l → (j : ℕ) → IsCongruent p (f (U i) j) (R i j))
    (wideE : (i j : ℕ) → i < k → k + l ≤ j → IsCongruent p (E i j) 0) (wideU : (i j : ℕ) → i < l → k + l ≤ j
    → IsCongruent p (U i j) 0)
    (v : ℕ → ℕ) (wide : (j : ℕ) → k + l ≤ j → IsCongruent p (v j) 0) (ker : (j : ℕ)
    → IsCongruent p (f v j) 0) where
  -- all k + l + 1 vectors
  family : ℕ → ℕ → ℕ
  family = joined k E (joined l U (λ i. v))

  -- a combination of the family
  three : (a : ℕ → ℕ) (j : ℕ) → sum_below (suc (k + l)) (λ i. a i * family i j) ≡
      sum_below k (λ i. a i * E i j) + sum_below l (λ i. a (k + i) * U i j) + a (k + l) * v j
  unfolding family
  three a j = omega (
    arith,
    sum_below-parts k l (λ i. a i * family i j),
    sum_below-same k (λ i. a i * family i j) (λ i. a i * E i j)
        (λ i b. ap (λ x. a i * x) (joined_left k E (joined l U (λ i. v)) i j b)),
    sum_below-same l (λ i. a (k + i) * family (k + i) j) (λ i. a (k + i) * U i j)
        (λ i b. ap (λ x. a (k + i) * x) (joined_right k E (joined l U (λ i. v)) i j
        ∙ joined_left l U (λ i. v) i j b)),
    ap (λ x. a (k + l) * x) (joined_right k E (joined l U (λ i. v)) l j ∙ last j),
  )
    where
      last : (j : ℕ) → joined l U (λ i. v) l j ≡ v j
      last j = grind (arith, nat_tests)

  -- a dependence holds at every place
  everywhere : (D : Dependence p (suc (k + l)) (k + l) family) (j : ℕ) →
      IsCongruent p (sum_below k (λ i. D.coefficients i * E i j) + sum_below l
      (λ i. D.coefficients (k + i) * U i j) + D.coefficients (k + l) * v j) 0
  everywhere D j = go (cases_lt j (k + l))
    where
      times_zero : (c x : ℕ) → IsCongruent p x 0 → IsCongruent p (c * x) 0
      times_zero c x h = congruent_trans (congruent_mul_left c h) (congruent_eq (omega arith))

      go : (j < k + l) ⊎ (k + l ≤ j) → IsCongruent p
          (sum_below k (λ i. D.coefficients i * E i j) + sum_below l
          (λ i. D.coefficients (k + i) * U i j) + D.coefficients (k + l) * v j) 0
      go (inl b) = congruent_trans (congruent_eq (sym (three D.coefficients j))) (D.vanishes j b)
      go (inr b) = congruent_trans (congruent_add (congruent_add
          (sum_below-vanishes p k (λ i. D.coefficients i * E i j)
          (λ i c. times_zero (D.coefficients i) (E i j) (wideE i j c b)))
          (sum_below-vanishes p l (λ i. D.coefficients (k + i) * U i j)
          (λ i c. times_zero (D.coefficients (k + i)) (U i j) (wideU i j c b))))
          (times_zero (D.coefficients (k + l)) (v j) (wide j b))) (congruent_eq (omega arith))

  -- the coefficients of U vanish
  middle_vanishes : (D : Dependence p (suc (k + l)) (k + l) family) (i : ℕ) → i < l
      → IsCongruent p (D.coefficients (k + i)) 0
  middle_vanishes D = indR.only_zero (λ i. D.coefficients (k + i)) (λ j.
      congruent_trans (congruent_sym (congruent_trans (images j)
      (congruent_trans (congruent_add (congruent_add (firsts j) (seconds j)) (thirds j))
      (congruent_eq (omega arith)))))
      (congruent_trans (L.same whole (λ j. 0) (everywhere D) j) (linear_zero L j)))
    where
      a : ℕ → ℕ
      a = D.coefficients

      whole : ℕ → ℕ
      whole j = sum_below k (λ i. a i * E i j) + sum_below l (λ i. a (k + i) * U i j) + a (k + l) * v j

      images : (j : ℕ) → IsCongruent p (f whole j)
          (sum_below k (λ i. a i * f (E i) j) + sum_below l (λ i. a (k + i) * f (U i) j) + a (k + l) * f v j)
      images j = congruent_trans (L.add (λ j. sum_below k (λ i. a i * E i j) + sum_below l
          (λ i. a (k + i) * U i j)) v (a (k + l)) j)
          (congruent_add (congruent_trans
          (L.same (λ j. sum_below k (λ i. a i * E i j) + sum_below l (λ i. a (k + i) * U i j))
          (λ j. sum_below k (λ i. a i * E i j) + 1 * sum_below l (λ i. a (k + i) * U i j))
          (λ j. congruent_eq (omega arith)) j)
          (congruent_trans (L.add (λ j. sum_below k (λ i. a i * E i j))
          (λ j. sum_below l (λ i. a (k + i) * U i j)) 1 j)
          (congruent_add (linear_sum L k a E j)
          (congruent_trans (congruent_eq (omega arith)) (linear_sum L l (λ i. a (k + i)) U j)))))
          (congruent_refl (a (k + l) * f v j)))

      times_zero : (c x : ℕ) → IsCongruent p x 0 → IsCongruent p (c * x) 0
      times_zero c x h = congruent_trans (congruent_mul_left c h) (congruent_eq (omega arith))

      firsts : (j : ℕ) → IsCongruent p (sum_below k (λ i. a i * f (E i) j)) 0
      firsts j = sum_below-vanishes p k (λ i. a i * f (E i) j)
          (λ i b. times_zero (a i) (f (E i) j) (kerE i b j))

      seconds : (j : ℕ) → IsCongruent p (sum_below l (λ i. a (k + i) * f (U i) j))
          (sum_below l (λ i. a (k + i) * R i j))
      seconds j = sum_below-congruent p l (λ i. a (k + i) * f (U i) j) (λ i. a (k + i) * R i j)
          (λ i b. congruent_mul_left (a (k + i)) (image i b j))

      thirds : (j : ℕ) → IsCongruent p (a (k + l) * f v j) 0
      thirds j = times_zero (a (k + l)) (f v j) (ker j)

  -- so E and v are dependent
  remaining : (D : Dependence p (suc (k + l)) (k + l) family) (j : ℕ)
      → IsCongruent p (sum_below k (λ i. D.coefficients i * E i j) + D.coefficients (k + l) * v j) 0
  remaining D j = congruent_trans (congruent_sym
      (congruent_trans (congruent_add (congruent_add
      (congruent_refl (sum_below k (λ i. D.coefficients i * E i j)))
      (sum_below-vanishes p l (λ i. D.coefficients (k + i) * U i j)
      (λ i b. congruent_trans (congruent_mul_right (U i j) (middle_vanishes D i b))
      (congruent_eq (omega arith)))))
      (congruent_refl (D.coefficients (k + l) * v j))) (congruent_eq (omega arith)))) (everywhere D j)

  pub in_kernel_span : (a : ℕ → ℕ) × Combines p k a E v
  in_kernel_span = go (dependent F (k + l) (suc (k + l)) family (omega arith))
    where
      go : Dependence p (suc (k + l)) (k + l) family → (a : ℕ → ℕ) × Combines p k a E v
      go D = combines_from_dependence F k E v D.coefficients (D.coefficients (k + l)) indE
          (remaining D) nonzero
        where
          nonzero : D.coefficients (k + l) % p ≢ 0
          nonzero z = D.nonzero (at (cases_lt D.place k) (cases_order D.place (k + l)))
            where
              lastz : IsCongruent p (D.coefficients (k + l)) 0
              lastz = record { same_remainder = z ∙ sym (zero-mod p) }

              firstz : (i : ℕ) → i < k → IsCongruent p (D.coefficients i) 0
              firstz = indE.only_zero D.coefficients
                  (λ j. drop_last (sum_below k (λ i. D.coefficients i * E i j)) (D.coefficients (k + l))
                  (v j) lastz (remaining D j))

              out : {x : ℕ} → IsCongruent p x 0 → x % p ≡ 0
              out h = h.same_remainder ∙ zero-mod p

              at : (D.place < k) ⊎ (k ≤ D.place) → (D.place ≡ k + l) ⊎ ((D.place < k + l) ⊎ (k + l < D.place))
                  → D.coefficients D.place % p ≡ 0
              at (inl b) _ = out (firstz D.place b)
              at (inr b) (inl e) = ap (λ x. D.coefficients x % p) e ∙ z
              at (inr b) (inr (inl c)) = let e : D.place ≡ k + (D.place - k) = omega arith in
                  ap (λ x. D.coefficients x % p) e ∙ out (middle_vanishes D (D.place - k) (omega arith))
              at (inr b) (inr (inr c)) = absurd (let d = D.below in omega arith)

-- Sums of images, one member at a time.
use Rattle.std.proofs.Common.{◌≡◌, ℕ, zero, suc, ◌+◌, ◌-◌, ◌*◌, ◌%◌, ◌<◌, ◌≤◌, List, length, arith, ap}
use Rattle.std.proofs.Common.{◌∙◌, refl, add-one}
use mathlib.Core.Path.{subst}
use Rattle.linear_algebra.specs.Modular.{IsCongruent, sum_below}
use Rattle.linear_algebra.specs.Rows.{entry, add_multiple}
use Rattle.linear_algebra.proofs.Congruences.{congruent_trans, congruent_eq, congruent_mod, congruent_add}
use Rattle.linear_algebra.proofs.Congruences.{congruent_mul_right}
use Rattle.linear_algebra.proofs.RowLemmas.{entry-add_multiple, length-add_multiple}
use Rattle.fp_rows.specs.Values.{RowValue}

-- the first k terms are added to the row
pub record AreImagesAdded (p : ℕ) (old : List ℕ) (g : ℕ → ℕ → ℕ) (k : ℕ) (sum : RowValue) : Type 0 where
  pub prime : sum.p ≡ p
  pub count : length sum.entries ≡ length old
  pub sums : (j : ℕ) → j < length old
      → IsCongruent p (entry sum.entries j) (entry old j + sum_below k (λ i. g i j))

pub images-none : (old : RowValue) (g : ℕ → ℕ → ℕ) → AreImagesAdded old.p old.entries g 0 old
images-none old g = record {
  prime = refl;
  count = refl;
  sums = λ j l. congruent_eq (let z : entry old.entries j ≡ entry old.entries j + 0 = omega arith in z);
}

pub images-skip : (p : ℕ) (old : List ℕ) (g : ℕ → ℕ → ℕ) (k : ℕ) (sum : RowValue)
    → AreImagesAdded p old g k sum
    → ((j : ℕ) → g k j ≡ 0) → AreImagesAdded p old g (k + 1) sum
images-skip p old g k sum A h = record {
  prime = A.prime;
  count = A.count;
  sums = λ j l. congruent_trans (A.sums j l) (congruent_eq (rw (add-one, h j)
      (let z : entry old j + sum_below k (λ i. g i j) ≡ entry old j +
      (sum_below k (λ i. g i j) + 0) = omega arith in
      z)));
}

pub images-next : (p : ℕ) (old : List ℕ) (g : ℕ → ℕ → ℕ) (k x : ℕ) (r : List ℕ) (mid new : RowValue)
    → AreImagesAdded p old g k mid → length r ≡ length mid.entries
    → new ≡ record mid { entries = add_multiple mid.p x mid.entries r }
    → ((j : ℕ) → x * entry r j ≡ g k j) → AreImagesAdded p old g (k + 1) new
images-next p old g k x r mid new A len e h = record {
  prime = ap (λ (v : RowValue). v.p) e ∙ A.prime;
  count = ap (λ (v : RowValue). length v.entries) e ∙ length-add_multiple mid.p x mid.entries r ∙ A.count;
  sums = λ j l. congruent_trans (congruent_eq (ap (λ (v : RowValue). entry v.entries j) e
      ∙ entry-add_multiple mid.p x mid.entries r j len (omega (arith, l, A.count))
      ∙ ap (λ q. (entry mid.entries j + x * entry r j) % q) A.prime))
      (congruent_trans (congruent_mod (entry mid.entries j + x * entry r j))
      (congruent_trans (congruent_add (A.sums j l) (congruent_eq (h j)))
      (congruent_eq (rw add-one
      (let z : entry old j + sum_below k (λ i. g i j) + g k j ≡ entry old j +
      (sum_below k (λ i. g i j) + g k j) =
      omega arith in z)))));
}

pub images-near : (p : ℕ) (old : List ℕ) (g : ℕ → ℕ → ℕ) (k : ℕ) (mid new : RowValue)
    → AreImagesAdded p old g k mid → new.p ≡ mid.p → length new.entries ≡ length mid.entries
    → ((j : ℕ) → j < length old → IsCongruent p (entry new.entries j) (entry mid.entries j + g k j))
    → AreImagesAdded p old g (k + 1) new
images-near p old g k mid new A e f h = record {
  prime = e ∙ A.prime;
  count = f ∙ A.count;
  sums = λ j l. congruent_trans (h j l) (congruent_trans (congruent_add (A.sums j l) (congruent_eq refl))
      (congruent_eq (rw add-one
      (let z : entry old j + sum_below k (λ i. g i j) + g k j ≡ entry old j +
      (sum_below k (λ i. g i j) + g k j) =
      omega arith in z))));
}

-- x times a row, and x times its multiple by c
pub times-near : (x : ℕ) (r : List ℕ) (mid new : RowValue) → length r ≡ length mid.entries
    → new ≡ record mid { entries = add_multiple mid.p x mid.entries r } → (j : ℕ) → j < length mid.entries
    → IsCongruent mid.p (entry new.entries j) (entry mid.entries j + x * entry r j)
times-near x r mid new len e j l = congruent_trans (congruent_eq (ap (λ (v : RowValue). entry v.entries j) e
    ∙ entry-add_multiple mid.p x mid.entries r j len l))
    (congruent_mod (entry mid.entries j + x * entry r j))

pub product-near : (x c y : ℕ) (r : List ℕ) (mid new : RowValue) → length r ≡ length mid.entries
    → y ≡ (0 + x * c) % mid.p
    → new ≡ record mid { entries = add_multiple mid.p y mid.entries r } → (j : ℕ) → j < length mid.entries
    → IsCongruent mid.p (entry new.entries j) (entry mid.entries j + x * (c * entry r j))
product-near x c y r mid new len d e j l = congruent_trans (times-near y r mid new len e j l)
    (congruent_add (congruent_eq refl) (congruent_trans (congruent_eq (ap (λ z. z * entry r j) d))
    (congruent_trans (congruent_mul_right (entry r j) (congruent_mod (0 + x * c)))
    (congruent_eq (let z : (0 + x * c) * entry r j ≡ x * (c * entry r j) = omega arith in z)))))

-- terms of 0 may be passed over
pub images-pass : (p : ℕ) (old : List ℕ) (g : ℕ → ℕ → ℕ) (k d : ℕ) (sum : RowValue)
    → AreImagesAdded p old g k sum
    → ((i : ℕ) → k ≤ i → i < k + d → (j : ℕ) → g i j ≡ 0) → AreImagesAdded p old g (k + d) sum
images-pass p old g k zero sum A h = subst (λ n. AreImagesAdded p old g n sum)
    (let z : k ≡ k + 0 = omega arith in z) A
images-pass p old g k (suc d) sum A h = subst (λ n. AreImagesAdded p old g n sum)
    (let z : k + d + 1 ≡ k + suc d = omega arith in z)
    (images-skip p old g (k + d) sum (images-pass p old g k d sum A (λ i a b. h i a (omega (arith, b))))
    (h (k + d) (omega arith) (omega arith)))

pub images-to : (p : ℕ) (old : List ℕ) (g : ℕ → ℕ → ℕ) (k m : ℕ) (sum : RowValue) → k ≤ m
    → AreImagesAdded p old g k sum
    → ((i : ℕ) → k ≤ i → i < m → (j : ℕ) → g i j ≡ 0) → AreImagesAdded p old g m sum
images-to p old g k m sum l A h = let e : k + (m - k) ≡ m = omega (arith, l) in
    subst (λ n. AreImagesAdded p old g n sum) e
    (images-pass p old g k (m - k) sum A (λ i a b. h i a (omega (arith, b, e))))

-- Sum coordinates of a member of the group algebra from its coefficients, and the other way round.
use Rattle.std.proofs.Common.{◌≡◌, ◌≢◌, ℕ, zero, suc, ◌+◌, ◌-◌, ◌*◌, ◌%◌, ◌<◌, List, length, slice_range}
use Rattle.std.proofs.Common.{slice_set, drop, arith, ap, ap₂, sym, ◌∙◌, get_or-set_same, get_or-set_other}
use Rattle.std.proofs.lemmas.List.{get_or-take, get_or-drop, length-take, length-drop}
use Rattle.linear_algebra.specs.Modular.{IsCongruent, sum_below}
use Rattle.linear_algebra.specs.Rows.{entry, IsRow}
use Rattle.linear_algebra.proofs.Sums.{sum_below-same}
use Rattle.linear_algebra.proofs.Congruences.{congruent_trans, congruent_eq, congruent_sym, congruent_add}
use Rattle.linear_algebra.proofs.Congruences.{congruent_mod, congruent_refl, to_congruent}
use Rattle.group_algebra.specs.Coefficients.{AreSumCoordinates}
use Rattle.group_algebra.proofs.GainLemmas.{set-row}

sum_below-first : (n : ℕ) (f : ℕ → ℕ) → sum_below (suc n) f ≡ f 0 + sum_below n (λ k. f (suc k))
sum_below-first zero f = omega arith
sum_below-first (suc n) f =
    let e : sum_below (suc n) f ≡ f 0 + sum_below n (λ k. f (suc k)) = sum_below-first n f in omega (arith, e)

module _ {p n : ℕ} (x : List ℕ) (row : IsRow p n x) (some : 0 < n) where
  set-first : (y : ℕ) → entry (slice_set x 0 y) 0 ≡ y
  set-first y = get_or-set_same x 0 y 0 (let e : length x ≡ n = row.length_is in omega (arith, e, some))

  set-other : (y k : ℕ) → 0 < k → entry (slice_set x 0 y) k ≡ entry x k
  set-other y k l = get_or-set_other x 0 k y 0 (let z : k ≢ 0 = omega (arith, l) in z)

  -- x with the sum s of its entries at the first place
  pub sum-coordinates-are : (s : ℕ) → s < p → IsCongruent p s (sum_below n (entry x))
      → AreSumCoordinates p n x (slice_set x 0 s)
  sum-coordinates-are s small sum = record {
    coefficients = row;
    coordinates = set-row x 0 s row some small;
    sum = congruent_trans (congruent_eq (set-first s)) sum;
    others = λ k l m. set-other s k l;
  }

  -- the sum of the entries from the second on
  pub later-sum : (part : List ℕ) → part ≡ slice_range x 1 (1 + (n - 1))
      → sum_below (length part) (entry part) ≡ sum_below (n - 1) (λ i. entry x (suc i))
  later-sum part e = ap₂ (λ m (ys : List ℕ). sum_below m (entry ys)) count e
      ∙ sum_below-same (n - 1) (entry (slice_range x 1 (1 + (n - 1)))) (λ i. entry x (suc i)) at
    where
      count : length part ≡ n - 1
      count = let w : length x ≡ n = row.length_is in
          omega (
            arith,
            ap (λ (ys : List ℕ). length ys) e,
            length-take (1 + (n - 1) - 1) (drop 1 x),
            length-drop 1 x,
            w,
          )

      at : (i : ℕ) → i < n - 1 → entry (slice_range x 1 (1 + (n - 1))) i ≡ entry x (suc i)
      at i l = get_or-take (1 + (n - 1) - 1) (drop 1 x) i 0 (omega (arith, l)) ∙ get_or-drop 1 x i 0
          ∙ ap (entry x) (let z : 1 + i ≡ suc i = omega arith in z)

  -- x with the first entry less the sum of the others at the first place
  pub coefficients-are : (rest first : ℕ) → first < p
      → IsCongruent p rest (sum_below (n - 1) (λ i. entry x (suc i)))
      → IsCongruent p (first + rest) (entry x 0) → AreSumCoordinates p n (slice_set x 0 first) x
  coefficients-are rest first small rest-is first-is = record {
    coefficients = set-row x 0 first row some small;
    coordinates = row;
    sum = congruent_sym (congruent_trans (congruent_eq split)
        (congruent_trans (congruent_add (congruent_refl first) (congruent_sym rest-is)) first-is));
    others = λ k l m. sym (set-other first k l);
  }
    where
      split : sum_below n (entry (slice_set x 0 first)) ≡ first + sum_below (n - 1) (λ i. entry x (suc i))
      split = ap (λ m. sum_below m (entry (slice_set x 0 first)))
          (let z : n ≡ suc (n - 1) = omega (arith, some) in z)
          ∙ sum_below-first (n - 1) (entry (slice_set x 0 first))
          ∙ ap₂ ◌+◌ (set-first first)
          (sum_below-same (n - 1) (λ i. entry (slice_set x 0 first) (suc i)) (λ i. entry x (suc i))
          (λ i l. set-other first (suc i) (omega arith)))

-- y less r, plus r
pub less-and-plus : {p : ℕ} (y r : ℕ) → 0 < p → IsCongruent p ((y + (p - 1) * r) % p + r) y
less-and-plus {p} y r some = congruent_trans
    (congruent_add (congruent_mod (y + (p - 1) * r)) (congruent_refl r))
    (to_congruent 0 r (let z : y + (p - 1) * r + r + 0 * p ≡ y + r * p = minus p some in z))
  where
    minus : (m : ℕ) → 0 < m → y + (m - 1) * r + r + 0 * m ≡ y + r * m
    minus zero l = absurd (omega (arith, l))
    minus (suc m) l = ap (λ k. y + k * r + r + 0 * suc m) (let e : suc m - 1 ≡ m = omega arith in e)
        ∙ (let z : y + m * r + r + 0 * suc m ≡ y + r * suc m = omega arith in z)

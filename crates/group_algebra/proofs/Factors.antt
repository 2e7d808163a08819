-- Images of members, with factors and without.
use Rattle.std.proofs.Common.{◌≡◌, ℕ, ◌+◌, ◌*◌, ◌<◌, ◌≤◌, List, [], ◌∷◌, length, Bool, true, false}
use Rattle.std.proofs.Common.{◌==◌, arith, sym, ◌∙◌, refl}
use Rattle.std.proofs.lemmas.Bool.{eqb-true}
use Rattle.std.proofs.Math.Nat.{mul-le-mul_right}
use Rattle.linear_algebra.specs.Modular.{sum_below}
use Rattle.linear_algebra.specs.Rows.{entry, row}
use Rattle.group_algebra.specs.Gains.{image_at, reach, stepped}

module _ (rows : List (List ℕ)) (first step : ℕ) where
  pub image-plain : (fs : List ℕ) (k j : ℕ) (b : Bool) → b ≡ (length fs == 0) → b ≡ true
      → image_at rows first step fs k j ≡ entry (stepped rows first step k) j
  image-plain [] k j b h e = refl
  image-plain (f ∷ fs) k j b h e =
      absurd (let z : length (f ∷ fs) ≡ 0 = eqb-true (length (f ∷ fs)) 0 (sym h ∙ e) in omega (arith, z))

  pub image-sum : (fs : List ℕ) (k j : ℕ) → 0 < length fs
      → image_at rows first step fs k j
      ≡ sum_below (length fs) (λ i. entry fs i * entry (row rows (first + k * step + i)) j)
  image-sum [] k j l = absurd (omega (arith, l))
  image-sum (f ∷ fs) k j l = refl

  pub image-factors : (fs : List ℕ) (k j : ℕ) (b : Bool) → b ≡ (length fs == 0) → b ≡ false
      → image_at rows first step fs k j
      ≡ sum_below (length fs) (λ i. entry fs i * entry (row rows (first + k * step + i)) j)
  image-factors [] k j b h e = absurd (let z : true ≡ false = sym h ∙ e in cc)
  image-factors (f ∷ fs) k j b h e = refl

-- the rows of an image by n factors, n rows for each member
pub reach-within : (fs : List ℕ) (k n L : ℕ) → length fs ≡ n → 0 < n → k < n → L ≡ n * n
    → 0 + k * n + reach fs ≤ L
reach-within [] k n L e some l f = absurd (omega (arith, e, some))
reach-within (x ∷ fs) k n L e some l f = let z : (k + 1) * n ≤ n * n =
    mul-le-mul_right n (let y : k + 1 ≤ n = omega (arith, l) in y) in omega (arith, z, e, f)

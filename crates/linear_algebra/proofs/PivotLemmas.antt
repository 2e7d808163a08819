-- The first place of a row that is not 0.
use Rattle.std.proofs.Common.{◌≡◌, ◌≢◌, ℕ, zero, suc, ◌<◌, ◌≤◌, List, [], ◌∷◌, length, arith, ap, refl}
use Rattle.linear_algebra.specs.Rows.{entry, pivot}

pub before_pivot : (r : List ℕ) (j : ℕ) → j < pivot r → entry r j ≡ 0
before_pivot [] j l = refl
before_pivot (zero ∷ xs) zero l = refl
before_pivot (zero ∷ xs) (suc j) l = before_pivot xs j (omega arith)
before_pivot (suc x ∷ xs) j l = absurd (omega arith)

pub pivot_is : (r : List ℕ) (t : ℕ) → ((j : ℕ) → j < t → entry r j ≡ 0) → entry r t ≢ 0 → pivot r ≡ t
pivot_is [] t h n = absurd (n refl)
pivot_is (zero ∷ xs) zero h n = absurd (n refl)
pivot_is (zero ∷ xs) (suc t) h n = ap suc (pivot_is xs t (λ j l. h (suc j) (omega arith)) n)
pivot_is (suc x ∷ xs) zero h n = refl
pivot_is (suc x ∷ xs) (suc t) h n = absurd (let e : suc x ≡ 0 = h 0 (omega arith) in omega arith)

pub pivot_none : (r : List ℕ) → ((j : ℕ) → j < length r → entry r j ≡ 0) → pivot r ≡ length r
pivot_none [] h = refl
pivot_none (zero ∷ xs) h = ap suc (pivot_none xs (λ j l. h (suc j) (omega arith)))
pivot_none (suc x ∷ xs) h = absurd (let e : suc x ≡ 0 = h 0 (omega arith) in omega arith)

pub pivot-le-length : (r : List ℕ) → pivot r ≤ length r
pivot-le-length [] = omega arith
pivot-le-length (zero ∷ xs) = omega (arith, pivot-le-length xs)
pivot-le-length (suc x ∷ xs) = omega arith

pub not_zero_at_pivot : (r : List ℕ) → pivot r < length r → entry r (pivot r) ≢ 0
not_zero_at_pivot [] l e = omega arith
not_zero_at_pivot (zero ∷ xs) l e = not_zero_at_pivot xs (omega arith) e
not_zero_at_pivot (suc x ∷ xs) l e = omega arith

-- The test for a pivot.
use Rattle.std.proofs.Common.{◌≡◌, ◌≢◌, ℕ, zero, suc, ◌<◌, List, [], ◌∷◌, length, Bool, true, false, ◌||◌}
use Rattle.std.proofs.Common.{eqb, ◌⊎◌, inl, inr, arith, refl}
use Rattle.std.proofs.lemmas.Bool.{cases_Bool, eqb-true, eq-eqb}
use Rattle.linear_algebra.specs.Rows.{row, pivot, IsPivot, is_pivot}

pub pivot-if-found : (rows : List (List ℕ)) (k : ℕ) → is_pivot rows k ≡ true → IsPivot rows k
pivot-if-found [] k h = absurd (let z : ⊥ = cc h in z)
pivot-if-found (r ∷ rows) k h = go (cases_Bool (eqb (pivot r) k)) (pivot-if-found rows k)
  where
    go : (eqb (pivot r) k ≡ true) ⊎ (eqb (pivot r) k ≡ false) → (is_pivot rows k ≡ true → IsPivot rows k)
        → IsPivot (r ∷ rows) k
    go (inl e) f = (0, omega arith, eqb-true (pivot r) k e)
    go (inr e) f = let p = f (rw e at h) in (suc p.0, omega (arith, p.1), p.2)

pub found-if-pivot : (rows : List (List ℕ)) (k : ℕ) → IsPivot rows k → is_pivot rows k ≡ true
found-if-pivot [] k (i, l, e) = absurd (omega (arith, l))
found-if-pivot (r ∷ rows) k (zero, l, e) = rw (eq-eqb (pivot r) k e) refl
found-if-pivot (r ∷ rows) k (suc i, l, e) =
    go (eqb (pivot r) k) (found-if-pivot rows k (i, omega (arith, l), e))
  where
    go : (b : Bool) → is_pivot rows k ≡ true → (b || is_pivot rows k) ≡ true
    go true h = refl
    go false h = h

pub not-found-if-none : (rows : List (List ℕ)) (k : ℕ)
    → ((i : ℕ) → i < length rows → pivot (row rows i) ≢ k) → is_pivot rows k ≡ false
not-found-if-none rows k h = go (cases_Bool (is_pivot rows k))
  where
    go : (is_pivot rows k ≡ true) ⊎ (is_pivot rows k ≡ false) → is_pivot rows k ≡ false
    go (inl e) = let p = pivot-if-found rows k e in absurd (h p.0 p.1 p.2)
    go (inr e) = e

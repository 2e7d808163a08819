-- The members of a list at the places that are no pivots.
use Rattle.std.proofs.Common.{◌≡◌, ℕ, zero, suc, ◌+◌, ◌<◌, List, [], ◌∷◌, length, true, false, cond, Bool}
use Rattle.std.proofs.Common.{arith, ap, sym, ◌∙◌, refl}
use Rattle.std.specs.Prelude.{slice_index_or}
use mathlib.Core.Path.{subst}
use Rattle.graded_polynomials.specs.Monomials.{IsGreater}
use Rattle.linear_algebra.specs.Rows.{is_pivot}
use Rattle.ring_completion.specs.Left.{without_pivots}

-- a member that is left, and the place where it stood
abbrev Stood : List (List ℕ) → ℕ → List (List ℕ) → ℕ → Type 0
Stood K k xs i = (j : ℕ) × (j < length xs)
    × (slice_index_or (without_pivots K k xs) i [] ≡ slice_index_or xs j []) × (is_pivot K (k + j) ≡ false)

stood-later : (K : List (List ℕ)) (k : ℕ) (x : List ℕ) (xs : List (List ℕ)) (y : List ℕ)
    → (j : ℕ) × (j < length xs) × (y ≡ slice_index_or xs j []) × (is_pivot K (suc k + j) ≡ false)
    → (j : ℕ) × (j < length (x ∷ xs)) × (y ≡ slice_index_or (x ∷ xs) j []) × (is_pivot K (k + j) ≡ false)
stood-later K k x xs y s = (
  suc s.0,
  (let l = s.1 in omega (arith, l)),
  s.2,
  ap (is_pivot K) (let e : k + suc s.0 ≡ suc k + s.0 = omega arith in e) ∙ s.3,
)

pub stood : (K : List (List ℕ)) (k : ℕ) (xs : List (List ℕ)) (i : ℕ) → i < length (without_pivots K k xs)
    → Stood K k xs i
stood K k [] i l = absurd (omega (arith, l))
stood K k (x ∷ xs) i l = go (is_pivot K k) refl (λ i l. stood K (suc k) xs i l) i l
  where
    go : (b : Bool) → is_pivot K k ≡ b
        → ((i : ℕ) → i < length (without_pivots K (suc k) xs) → Stood K (suc k) xs i)
        → (i : ℕ) → i < length (cond b (without_pivots K (suc k) xs) (x ∷ without_pivots K (suc k) xs))
        → (j : ℕ) × (j < length (x ∷ xs))
        × (slice_index_or (cond b (without_pivots K (suc k) xs) (x ∷ without_pivots K (suc k) xs)) i []
        ≡ slice_index_or (x ∷ xs) j []) × (is_pivot K (k + j) ≡ false)
    go true e f i l = stood-later K k x xs _ (f i l)
    go false e f zero l = (0, omega arith, refl, ap (is_pivot K) (let z : k + 0 ≡ k = omega arith in z) ∙ e)
    go false e f (suc i) l = stood-later K k x xs _ (f i (omega (arith, l)))

-- a member at no pivot is left
pub left : (K : List (List ℕ)) (k : ℕ) (xs : List (List ℕ)) (j : ℕ) → j < length xs
    → is_pivot K (k + j) ≡ false
    → (i : ℕ) × (i < length (without_pivots K k xs))
    × (slice_index_or (without_pivots K k xs) i [] ≡ slice_index_or xs j [])
left K k [] j l n = absurd (omega (arith, l))
left K k (x ∷ xs) zero l n = go (is_pivot K k) (ap (is_pivot K) (let z : k ≡ k + 0 = omega arith in z) ∙ n)
  where
    go : (b : Bool) → b ≡ false
        → (i : ℕ) × (i < length (cond b (without_pivots K (suc k) xs) (x ∷ without_pivots K (suc k) xs)))
        × (slice_index_or (cond b (without_pivots K (suc k) xs) (x ∷ without_pivots K (suc k) xs)) i [] ≡ x)
    go true e = absurd cc
    go false e = (0, omega arith, refl)
left K k (x ∷ xs) (suc j) l n = go (is_pivot K k)
    (left K (suc k) xs j (omega (arith, l))
    (ap (is_pivot K) (let z : suc k + j ≡ k + suc j = omega arith in z) ∙ n))
  where
    go : (b : Bool) → (i : ℕ) × (i < length (without_pivots K (suc k) xs))
        × (slice_index_or (without_pivots K (suc k) xs) i [] ≡ slice_index_or xs j [])
        → (i : ℕ) × (i < length (cond b (without_pivots K (suc k) xs) (x ∷ without_pivots K (suc k) xs)))
        × (slice_index_or (cond b (without_pivots K (suc k) xs) (x ∷ without_pivots K (suc k) xs)) i []
        ≡ slice_index_or xs j [])
    go true s = s
    go false s = (suc s.0, (let l = s.1 in omega (arith, l)), s.2)

pub left-descend : (K : List (List ℕ)) (k : ℕ) (xs : List (List ℕ))
    → ((i j : ℕ) → i < j → j < length xs → IsGreater (slice_index_or xs i []) (slice_index_or xs j []))
    → (i j : ℕ) → i < j → j < length (without_pivots K k xs)
    → IsGreater (slice_index_or (without_pivots K k xs) i []) (slice_index_or (without_pivots K k xs) j [])
left-descend K k [] D i j l m = absurd (omega (arith, m))
left-descend K k (x ∷ xs) D i j l m = go (is_pivot K k)
    (left-descend K (suc k) xs (λ i j a b. D (suc i) (suc j) (omega (arith, a)) (omega (arith, b)))) i j l m
  where
    go : (b : Bool)
        → ((i j : ℕ) → i < j → j < length (without_pivots K (suc k) xs)
        → IsGreater (slice_index_or (without_pivots K (suc k) xs) i [])
        (slice_index_or (without_pivots K (suc k) xs) j []))
        → (i j : ℕ) → i < j
        → j < length (cond b (without_pivots K (suc k) xs) (x ∷ without_pivots K (suc k) xs))
        → IsGreater (slice_index_or (cond b (without_pivots K (suc k) xs) (x ∷ without_pivots K (suc k) xs)) i
        []) (slice_index_or (cond b (without_pivots K (suc k) xs) (x ∷ without_pivots K (suc k) xs)) j [])
    go true rest i j l m = rest i j l m
    go false rest i zero l m = absurd (omega (arith, l))
    go false rest zero (suc j) l m = let s = stood K (suc k) xs j (omega (arith, m)) in
        subst (λ y. IsGreater x y) (sym s.2) (D 0 (suc s.0) (omega arith) (let b = s.1 in omega (arith, b)))
    go false rest (suc i) (suc j) l m = rest i j (omega (arith, l)) (omega (arith, m))

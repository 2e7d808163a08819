-- A list of exponents without the zeros at its end.
use Rattle.std.proofs.Common.{◌≡◌, ◌≢◌, ℕ, zero, suc, ◌≤◌, List, [], ◌∷◌, length, take, arith, ap, refl}
use Rattle.graded_polynomials.specs.Monomials.{exponent, IsTrimmed}

pub exponent-take : (a : List ℕ) (n : ℕ) → ((i : ℕ) → n ≤ i → exponent a i ≡ 0) → (i : ℕ)
    → exponent (take n a) i ≡ exponent a i
exponent-take [] zero h i = refl
exponent-take [] (suc n) h i = refl
exponent-take (x ∷ a) zero h i = let e : exponent (x ∷ a) i ≡ 0 = h i (omega arith) in rw e refl
exponent-take (x ∷ a) (suc n) h zero = refl
exponent-take (x ∷ a) (suc n) h (suc i) = exponent-take a n (λ j l. h (suc j) (omega arith)) i

-- the last exponent that is kept is not 0
pub trimmed-take : (a : List ℕ) (n : ℕ) → n ≤ length a → ((k : ℕ) → n ≡ suc k → exponent a k ≢ 0)
    → IsTrimmed (take n a)
trimmed-take a zero l o = tt
trimmed-take [] (suc n) l o = tt
trimmed-take (x ∷ a) (suc n) l o = (
  (λ h. first a n l o h),
  trimmed-take a n (omega arith) (λ k e. o (suc k) (ap suc e)),
)
  where
    first : (a : List ℕ) (n : ℕ) → suc n ≤ length (x ∷ a) → ((k : ℕ) → suc n ≡ suc k → exponent (x ∷ a) k ≢ 0)
        → take n a ≡ [] → x ≢ 0
    first a zero l o h = o 0 refl
    first [] (suc n) l o h = absurd (omega (arith, l))
    first (y ∷ a) (suc n) l o h = absurd cc

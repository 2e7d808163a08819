-- The degrees of terms, and the first that is out of line.
use Rattle.std.proofs.Common.{◌≡◌, ◌≢◌, ℕ, zero, suc, ◌+◌, ◌-◌, ◌*◌, ◌<◌, ◌≤◌, inl, inr, List, [], ◌∷◌, ◌++◌}
use Rattle.std.proofs.Common.{length, take, drop, get_or, All, subst, arith, ap, sym, ◌∙◌, refl}
use Rattle.std.proofs.Math.Nat.{mul-le-mul_left}
use Rattle.std.proofs.lemmas.List.{take_more}
use Rattle.limits.specs.declared.TheConstants.{GREATEST_DEGREE}
use Rattle.graded_polynomials.specs.Texts.{Factor}
use Rattle.polynomial_texts.specs.Readings.{factors_degree, IsFirst}
use Rattle.polynomial_reader.specs.declared.fault.PolyFault.TheVariants.{Mixed}
use Rattle.polynomial_reader.specs.Reading.{IsDegreeFault}
use Rattle.polynomial_reader.proofs.Cutting.{rest-whole}

-- what has the property, and none before it, is the first
pub first-at : (P : ℕ → Type 0) (xs : List ℕ) (i : ℕ) → i < length xs → P (get_or xs i 0)
    → ((k : ℕ) → k < i → P (get_or xs k 0) → ⊥)
    → IsFirst P (get_or xs i 0) xs
first-at P [] i l p h = absurd (omega arith)
first-at P (x ∷ xs) zero l p h = inl (p, refl)
first-at P (x ∷ xs) (suc i) l p h = inr (
  h 0 (omega arith),
  first-at P xs i (omega (arith, l)) p (λ k m. h (suc k) (omega arith)),
)

degree-append : (ds : List ℕ) (xs : List Factor) (x : Factor)
    → factors_degree ds (xs ++ x ∷ []) ≡ factors_degree ds xs + get_or ds x.generator 0 * x.exponent
degree-append ds [] x = omega arith
degree-append ds (y ∷ xs) x = omega (arith, degree-append ds xs x)

-- one more factor
pub degree-more : (ds : List ℕ) (xs : List Factor) (i : ℕ) (x : Factor) → i < length xs → x ≡ get_or xs i x
    → factors_degree ds (take (i + 1) xs) ≡ factors_degree ds
    (take i xs) + get_or ds x.generator 0 * x.exponent
degree-more ds xs i x l e = ap (factors_degree ds) (take_more xs i x l
    ∙ ap (λ y. take i xs ++ y ∷ []) (sym e)) ∙ degree-append ds (take i xs) x

pub factor-small : (a b : ℕ) → a ≤ GREATEST_DEGREE → b ≤ GREATEST_DEGREE → a * b ≤ 576
factor-small a b h k = omega (arith, mul-le-mul_left a k)

-- the degree so far is at most the whole
pub degree-front : (ds : List ℕ) (xs : List Factor) (i : ℕ)
    → factors_degree ds (take i xs) ≤ factors_degree ds xs
degree-front ds [] zero = omega arith
degree-front ds [] (suc i) = omega arith
degree-front ds (x ∷ xs) zero = omega arith
degree-front ds (x ∷ xs) (suc i) = omega (arith, degree-front ds xs i)

-- the degrees are not all the first
pub mixed-fault : (degrees : List ℕ) (e : ℕ) → 1 ≤ length degrees → All (λ k. k ≤ GREATEST_DEGREE) degrees
    → IsFirst (λ k. k ≢ get_or degrees 0 0) e (take (length degrees - 1) (drop 1 degrees))
    → IsDegreeFault degrees (Mixed (get_or degrees 0 0) e)
mixed-fault [] e l h f = absurd (omega arith)
mixed-fault (x ∷ xs) e l h f = (h, refl, subst (IsFirst (λ k. k ≢ x) e) (rest-whole (x ∷ xs) 1) f)

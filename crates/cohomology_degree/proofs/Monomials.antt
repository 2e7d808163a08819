-- Monomials without their last factor, and generators as monomials.
use Rattle.std.proofs.Common.{◌≡◌, ◌≢◌, ℕ, zero, suc, ◌-◌, ◌<◌, ◌≤◌, List, [], ◌∷◌, ◌++◌, length, arith, ap}
use Rattle.std.proofs.Common.{sym, ◌∙◌, refl}
use Rattle.std.specs.Prelude.{replicate}
use Rattle.std.proofs.lemmas.List.{get_or_push, get_or_append_left, length_push}
use Rattle.graded_polynomials.specs.Monomials.{exponent, IsTrimmed}
use Rattle.graded_polynomials.specs.Texts.{power}
use Rattle.graded_polynomials.proofs.Exponents.{same-exponents}
use Rattle.presentation_rows.specs.Factors.{IsLastFactor}
use Rattle.gc_poly.proofs.Comparing.{exponent-beyond}

pub last-is-positive : (m : List ℕ) (i : ℕ) → IsTrimmed m → length m ≡ suc i → 1 ≤ exponent m i
last-is-positive [] i t l = absurd cc
last-is-positive (e ∷ []) i t l = let z : i ≡ 0 = omega (arith, l) in
    rw z (let p : e ≢ 0 = t.0 refl in omega (arith, p))
last-is-positive (e ∷ x ∷ m) zero t l = absurd (omega (arith, l))
last-is-positive (e ∷ x ∷ m) (suc i) t l = last-is-positive (x ∷ m) i t.1 (omega (arith, l))

-- the exponents before the last one, and the last one less 1
pub last-factor-of : (m front all n : List ℕ) (i e : ℕ) → IsTrimmed m → length m ≡ suc i → length front ≡ i
    → ((k : ℕ) → k < i → exponent front k ≡ exponent m k)
    → e ≡ exponent m i → all ≡ front ++ (e - 1) ∷ [] → ((k : ℕ) → exponent n k ≡ exponent all k)
    → IsLastFactor i n m
last-factor-of m front all n i e t lm lf same ee ea en =
    record { before = before; here = here; after = after }
  where
    before : (j : ℕ) → j < i → exponent m j ≡ exponent n j
    before j l = sym (en j ∙ ap (λ x. exponent x j) ea
        ∙ get_or_append_left front ((e - 1) ∷ []) 0 j (omega (arith, lf, l)) ∙ same j l)

    here : exponent m i ≡ suc (exponent n i)
    here = let a : exponent n i ≡ e - 1 = en i ∙ ap (λ x. exponent x i) ea
        ∙ get_or_push front (e - 1) 0 i lf in
        let p : 1 ≤ exponent m i = last-is-positive m i t lm in omega (arith, a, p, ee)

    after : (j : ℕ) → i < j → (exponent m j ≡ 0) × (exponent n j ≡ 0)
    after j l = (
      exponent-beyond m j (omega (arith, lm, l)),
      en j ∙ ap (λ x. exponent x j) ea ∙ exponent-beyond (front ++ (e - 1) ∷ []) j
          (let k = length_push front (e - 1) in omega (arith, k, lf, l)),
    )

trimmed-power : (i : ℕ) → IsTrimmed (power i 1)
trimmed-power zero = ((λ e z. absurd cc), tt)
trimmed-power (suc i) = ((λ e z. absurd (power-not-empty i e)), trimmed-power i)
  where
    power-not-empty : (i : ℕ) → power i 1 ≡ [] → ⊥
    power-not-empty zero e = absurd cc
    power-not-empty (suc i) e = absurd cc

power-list : (i : ℕ) → power i 1 ≡ replicate i 0 ++ 1 ∷ []
power-list zero = refl
power-list (suc i) = ap (λ m. 0 ∷ m) (power-list i)

-- the monomial with the one exponent 1
pub power-is : (m es : List ℕ) (i : ℕ) → IsTrimmed m → es ≡ replicate i 0 ++ 1 ∷ []
    → ((k : ℕ) → exponent m k ≡ exponent es k) → m ≡ power i 1
power-is m es i t e s = same-exponents m (power i 1) t (trimmed-power i) (λ k. s k
    ∙ ap (λ x. exponent x k) (e ∙ sym (power-list i)))

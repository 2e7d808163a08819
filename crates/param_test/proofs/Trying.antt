-- Degrees with few monomials.
use Rattle.std.proofs.Common.{◌≡◌, ◌≢◌, ℕ, ◌+◌, ◌<◌, ◌≤◌, ◌⊎◌, inl, inr, arith, ap, subst, ◌∙◌}
use Rattle.std.proofs.lemmas.Bool.{cases_lt}
use Rattle.param_test.specs.Counting.{number}
use Rattle.param_test.proofs.Numbers.{number-zero, number-one}

pub few-none : (s d : ℕ) → d < 1 → number s d ≤ 1500
few-none s d l = let z : d ≡ 0 = omega arith in rw (z, number-zero s) (omega arith)

pub few-more : (s e n : ℕ) → n ≡ number s e → n ≤ 1500 → ((d : ℕ) → d < e → number s d ≤ 1500) → (d : ℕ)
    → d < e + 1 → number s d ≤ 1500
few-more s e n k l h d b = go (cases_lt d e)
  where
    go : (d < e) ⊎ (e ≤ d) → number s d ≤ 1500
    go (inl c) = h d c
    go (inr c) = let z : e ≡ d = omega arith in subst (λ d. number s d ≤ 1500) z (subst (λ n. n ≤ 1500) k l)

-- one degree after few variables has few monomials
pub not-first : (s e n : ℕ) → s ≤ 1500 → n ≡ number s e → 1500 < n → e ≢ 1
not-first s e n l k m z = let a = number-one s in let b = k ∙ ap (number s) z in omega (arith, a, b)

-- The product of a layer and the maps α_i by numbers.
use Rattle.std.specs.Prelude.{◌≡◌, List, Option, Some, None, ℕ, suc, ◌+◌, ◌-◌, ◌*◌, ◌/◌, ◌%◌, ◌^◌, ltb}
use Rattle.std.specs.Prelude.{if◌then◌else◌, drop}
use Rattle.power_commutator.specs.Presentations.{Presentation, IsWord, iterate, ascending, product, number}
use Rattle.power_commutator.specs.Presentations.{word_of, commutator_word}

-- the product of a layer by numbers, from the product t, the number w of w_i and the table f of α_i in the
-- next layer
abbrev pub step_table : ℕ → (ℕ → ℕ → ℕ) → ℕ → (ℕ → ℕ) → ℕ → ℕ → ℕ
step_table p t w f a b =
    let c = a % p + b % p in
    let z = t (iterate f (b % p) (a / p)) (b / p) in
    if (ltb c p) then (c + p * z) else ((c - p) + p * t w z)

-- α_i by numbers
abbrev pub step_alpha : Presentation → (ℕ → ℕ → ℕ) → (i m : ℕ) → ℕ → ℕ
step_alpha P t i m k =
    ascending t 0 (λ j. t (P.prime ^ (j - suc i)) (number P.prime (drop i (commutator_word P j i)))) (suc i)
    (word_of P.prime m k)

-- t is the product of layer i, which has m generators, by numbers
abbrev pub IsLayerTable : Presentation → (i m : ℕ) → (ℕ → ℕ → ℕ) → Type 0
IsLayerTable P i m t = (x y : List ℕ) → IsWord P.prime m 0 x → IsWord P.prime m 0 y
    → number P.prime (product P i m x y) ≡ t (number P.prime x) (number P.prime y)

-- the first of two answers
abbrev pub or_else : {A : Type 0} → Option A → Option A → Option A
or_else None y = y
or_else (Some x) y = Some x

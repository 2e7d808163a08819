-- Two tests compared.
use Rattle.std.proofs.Common.{◌≡◌, Bool, true, false, not, refl, ℕ, List, [], ◌∷◌, ◌++◌, length, ap, sym, map}
use Rattle.std.proofs.lemmas.Bool.{eqb-true}
use Rattle.std.specs.Prelude.{◌==◌}
use mathlib.Core.Bool.{beq}

pub differ_there : (a b : Bool) → not (beq a b) ≡ true → b ≡ true → a ≡ true → ⊥
differ_there true true d e f = let bad : false ≡ true = d in cc
differ_there true false d e f = cc
differ_there false b d e f = cc

pub differ_here : (a b : Bool) → not (beq a b) ≡ true → not b ≡ true → (a ≡ true) × (b ≡ true → ⊥)
differ_here true true d e = absurd (let bad : false ≡ true = d in cc)
differ_here true false d e = (refl, λ f. cc)
differ_here false true d e = absurd (let bad : false ≡ true = e in cc)
differ_here false false d e = absurd (let bad : false ≡ true = d in cc)

pub agree : (a b : Bool) → not (beq a b) ≡ false → a ≡ b
agree true true d = refl
agree true false d = absurd (let bad : true ≡ false = d in cc)
agree false true d = absurd (let bad : true ≡ false = d in cc)
agree false false d = refl

pub no_items : (xs : List ℕ) → true ≡ (length xs == 0) → xs ≡ []
no_items [] e = refl
no_items (x ∷ xs) e = absurd (let bad : length (x ∷ xs) ≡ 0 = eqb-true (length (x ∷ xs)) 0 (sym e) in cc)

pub append_none : {A : Type 0} (xs : List A) → xs ≡ xs ++ []
append_none [] = refl
append_none (x ∷ xs) = ap (λ l. x ∷ l) (append_none xs)

pub map_append : {A B : Type 0} (f : A → B) (xs ys : List A) → map f (xs ++ ys) ≡ map f xs ++ map f ys
map_append f [] ys = refl
map_append f (x ∷ xs) ys = ap (λ l. f x ∷ l) (map_append f xs ys)

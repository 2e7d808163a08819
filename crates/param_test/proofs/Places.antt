-- Lists compared place by place.
use Rattle.std.proofs.Common.{◌≡◌, ℕ, ◌≤◌, ◌⊎◌, inl, inr, List, [], ◌∷◌, ◌++◌, length, refl, sym, ◌∙◌, arith}
use Rattle.std.proofs.lemmas.Bool.{cases_order}
use Rattle.param_test.specs.Firsts.{IsLess}

pub less-trans : (a b c : List ℕ) → IsLess a b → IsLess b c → IsLess a c
less-trans [] b c h k = absurd h
less-trans (x ∷ a) [] c h k = absurd h
less-trans (x ∷ a) (y ∷ b) [] h k = absurd k
less-trans (x ∷ a) (y ∷ b) (z ∷ c) (inl h) (inl k) = inl (omega arith)
less-trans (x ∷ a) (y ∷ b) (z ∷ c) (inl h) (inr k) = inl (omega (arith, k.0))
less-trans (x ∷ a) (y ∷ b) (z ∷ c) (inr h) (inl k) = inl (omega (arith, h.0))
less-trans (x ∷ a) (y ∷ b) (z ∷ c) (inr h) (inr k) = inr (h.0 ∙ k.0, less-trans a b c h.1 k.1)

pub less-none : (a : List ℕ) → IsLess a [] → ⊥
less-none [] h = h
less-none (x ∷ a) h = h

pub less-self : (a : List ℕ) → IsLess a a → ⊥
less-self [] h = h
less-self (x ∷ a) (inl h) = absurd (omega arith)
less-self (x ∷ a) (inr h) = less-self a h.1

-- a stays before what continues b
pub less-longer : (a b w : List ℕ) → IsLess a b → IsLess a (b ++ w)
less-longer [] b w h = absurd h
less-longer (x ∷ a) [] w h = absurd h
less-longer (x ∷ a) (y ∷ b) w (inl h) = inl h
less-longer (x ∷ a) (y ∷ b) w (inr h) = inr (h.0, less-longer a b w h.1)

-- lists that begin alike
pub less-after : (pre v w : List ℕ) → IsLess v w → IsLess (pre ++ v) (pre ++ w)
less-after [] v w h = h
less-after (x ∷ pre) v w h = inr (refl, less-after pre v w h)

-- what is before pre ++ w is before pre or begins with it
pub less-split : (y pre w : List ℕ) → IsLess y (pre ++ w)
    → IsLess y pre ⊎ ((v : List ℕ) × (y ≡ pre ++ v) × IsLess v w)
less-split y [] w h = inr (y, refl, h)
less-split [] (x ∷ pre) w h = absurd h
less-split (z ∷ y) (x ∷ pre) w (inl h) = inl (inl h)
less-split (z ∷ y) (x ∷ pre) w (inr h) =
    elim (less-split y pre w h.1) as
    (λ _. IsLess (z ∷ y) (x ∷ pre) ⊎ ((v : List ℕ) × (z ∷ y ≡ x ∷ (pre ++ v)) × IsLess v w)) [
      | inl k ↦ inl (inr (h.0, k))
      | inr k ↦ let e : z ≡ x = h.0 in let f : y ≡ pre ++ k.0 = k.1 in inr (k.0, cc, k.2)
    ]

abbrev pub Compared : List ℕ → List ℕ → Type 0
Compared y q = IsLess y q ⊎ (IsLess q y ⊎ ((w : List ℕ) × (y ≡ q ++ w)))

pub compare-less : (y q : List ℕ) → length q ≤ length y → Compared y q
compare-less y [] h = inr (inr (y, refl))
compare-less [] (x ∷ q) h = absurd (omega arith)
compare-less (z ∷ y) (x ∷ q) h =
    elim (cases_order z x) as (λ _. Compared (z ∷ y) (x ∷ q)) [
      | inl e ↦ elim (compare-less y q (omega arith)) as (λ _. Compared (z ∷ y) (x ∷ q)) [
        | inl a ↦ inl (inr (e, a))
        | inr b ↦ elim b as (λ _. Compared (z ∷ y) (x ∷ q)) [
          | inl a ↦ inr (inl (inr (sym e, a)))
          | inr c ↦ let f : y ≡ q ++ c.0 = c.1 in inr (inr (c.0, cc))
        ]
      ]
      | inr k ↦ elim k as (λ _. Compared (z ∷ y) (x ∷ q)) [
        | inl g ↦ inl (inl g)
        | inr g ↦ inr (inl (inl g))
      ]
    ]

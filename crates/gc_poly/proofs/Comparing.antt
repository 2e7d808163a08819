-- When one monomial is greater than another, by a first difference.
use Rattle.std.proofs.Common.{◌≡◌, ℕ, zero, suc, ◌<◌, ◌≤◌, List, [], ◌∷◌, length, ◌⊎◌, inl, inr, arith, refl}
use Rattle.std.proofs.lemmas.Bool.{cases_order, cases_lt}
use Rattle.graded_polynomials.specs.Monomials.{IsGreater, exponent}

pub less-at : (a b : List ℕ) (i : ℕ) → ((j : ℕ) → j < i → exponent a j ≡ exponent b j)
    → exponent a i < exponent b i → IsGreater a b → ⊥
less-at a b i h l g = go (cases_order g.at i)
  where
    go : (g.at ≡ i) ⊎ ((g.at < i) ⊎ (i < g.at)) → ⊥
    go (inl e) = let k : exponent b i < exponent a i = rw e at g.more in omega (arith, k, l)
    go (inr (inl b)) = omega (arith, g.more, h g.at b)
    go (inr (inr b)) = omega (arith, g.before i b, l)

pub exponent-beyond : (a : List ℕ) (i : ℕ) → length a ≤ i → exponent a i ≡ 0
exponent-beyond [] i l = refl
exponent-beyond (x ∷ a) zero l = absurd (omega arith)
exponent-beyond (x ∷ a) (suc i) l = exponent-beyond a i (omega arith)

pub none-greater : (a b : List ℕ) → ((j : ℕ) → j < length a → exponent a j ≡ exponent b j) → IsGreater a b → ⊥
none-greater a b h g = go (cases_lt g.at (length a))
  where
    go : (g.at < length a) ⊎ (length a ≤ g.at) → ⊥
    go (inl l) = omega (arith, h g.at l, g.more)
    go (inr l) = omega (arith, exponent-beyond a g.at l, g.more)

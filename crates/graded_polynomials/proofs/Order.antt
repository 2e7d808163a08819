-- No two monomials are each greater than the other.
use Rattle.std.proofs.Common.{◌≡◌, ℕ, ◌<◌, List, ◌⊎◌, inl, inr, arith}
use Rattle.std.proofs.lemmas.Bool.{cases_order}
use Rattle.graded_polynomials.specs.Monomials.{IsGreater, exponent}

pub greater-self : (a : List ℕ) → IsGreater a a → ⊥
greater-self a h = omega (arith, h.more)

pub greater-both : (a b : List ℕ) → IsGreater a b → IsGreater b a → ⊥
greater-both a b g h = go (cases_order g.at h.at)
  where
    go : (g.at ≡ h.at) ⊎ ((g.at < h.at) ⊎ (h.at < g.at)) → ⊥
    go (inl e) = omega (arith, g.more, (let k : exponent a g.at < exponent b g.at = rw e h.more in k))
    go (inr (inl l)) = omega (arith, g.more, h.before g.at l)
    go (inr (inr l)) = omega (arith, h.more, g.before h.at l)

-- Generators: a prime, and the degrees of the generators in order.
use Rattle.std.specs.Prelude.{ℕ, ◌-◌, ◌≤◌, List, All, AllPairs}
use Rattle.limits.specs.declared.TheConstants.{GREATEST_DEGREE}

pub record Generators : Type 0 where
  pub prime : ℕ
  pub degrees : List ℕ

-- p - 1, the greatest coefficient
abbrev pub greatest : Generators → ℕ
greatest g = g.prime - 1

-- the degrees are from 1 to the greatest and do not descend
pub record AreOrdered (degrees : List ℕ) : Type 0 where
  pub range : All (λ d. (1 ≤ d) × (d ≤ GREATEST_DEGREE)) degrees
  pub order : AllPairs (λ d e. d ≤ e) degrees

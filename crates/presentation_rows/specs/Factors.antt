-- The last factor of a monomial.
use Rattle.std.specs.Prelude.{◌≡◌, ℕ, suc, ◌<◌, List}
use Rattle.graded_polynomials.specs.Monomials.{exponent}

-- m is n times generator i, and no later generator is a factor
pub record IsLastFactor (i : ℕ) (n m : List ℕ) : Type 0 where
  pub before : (j : ℕ) → j < i → exponent m j ≡ exponent n j
  pub here : exponent m i ≡ suc (exponent n i)
  pub after : (j : ℕ) → i < j → (exponent m j ≡ 0) × (exponent n j ≡ 0)

-- Groups on the numbers below n.
use Rattle.std.specs.Prelude.{◌≡◌, ℕ, ◌<◌}

-- mul is the product of a group on the numbers below n, with the identity 0
pub record IsGroup (n : ℕ) (mul : ℕ → ℕ → ℕ) : Type 0 where
  pub closed : (a b : ℕ) → a < n → b < n → mul a b < n
  pub some : 0 < n
  pub one-mul : (a : ℕ) → a < n → mul 0 a ≡ a
  pub mul-one : (a : ℕ) → a < n → mul a 0 ≡ a
  pub mul-assoc : (a b c : ℕ) → a < n → b < n → c < n → mul (mul a b) c ≡ mul a (mul b c)
  pub inverse : (a : ℕ) → a < n → (b : ℕ) × b < n × (mul a b ≡ 0) × (mul b a ≡ 0)

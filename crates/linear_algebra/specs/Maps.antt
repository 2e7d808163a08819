-- Linear maps.
use Rattle.std.specs.Prelude.{ℕ, ◌+◌, ◌*◌}
use Rattle.linear_algebra.specs.Modular.{IsCongruent, sum_below}

-- f takes vectors to vectors, linearly modulo p
pub record IsLinear (p : ℕ) (f : (ℕ → ℕ) → ℕ → ℕ) : Type 0 where
  pub same : (x y : ℕ → ℕ) → ((j : ℕ) → IsCongruent p (x j) (y j)) → (j : ℕ) → IsCongruent p (f x j) (f y j)
  pub add : (x y : ℕ → ℕ) (c j : ℕ) → IsCongruent p (f (λ k. x k + c * y k) j) (f x j + c * f y j)

-- the map that takes the basis vector i to row i
abbrev pub times_matrix : ℕ → (ℕ → ℕ → ℕ) → (ℕ → ℕ) → ℕ → ℕ
times_matrix m R x j = sum_below m (λ i. x i * R i j)

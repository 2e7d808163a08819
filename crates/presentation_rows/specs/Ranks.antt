-- Class vectors with ranks: a vector of degree d is 0 from the rank of d on.
use Rattle.std.specs.Prelude.{◌≡◌, ℕ, ◌+◌, ◌≤◌}
use Rattle.linear_algebra.specs.Residues.{Vector, residue}

-- one class in degree 0, and products are of their degree
pub record HasRanks (q : ℕ) (ranks : ℕ → ℕ) (mul : ℕ → ℕ → Vector q → Vector q → Vector q) : Type 0 where
  pub one : ranks 0 ≡ 1
  pub products : (d e : ℕ) (v w : Vector q) (i : ℕ) → ranks (d + e) ≤ i → mul d e v w i ≡ residue q 0

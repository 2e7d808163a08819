-- Vectors with different heads, and what reduction by them leaves.
use Rattle.std.specs.Prelude.{◌≡◌, ◌≢◌, ℕ, ◌+◌, ◌-◌, ◌*◌, ◌%◌, ◌<◌, List, length}
use Rattle.linear_algebra.specs.Rows.{entry, row, pivot, IsMatrix, IsInSpan}

-- the head of a vector is its first place that is not 0: heads are pairwise different, the entry at a head
-- is 1, and each vector is 0 at the heads of the vectors before it
pub record IsBasis (p width : ℕ) (vectors : List (List ℕ)) : Type 0 where
  pub matrix : IsMatrix p width vectors
  pub not_zero : (i : ℕ) → i < length vectors → pivot (row vectors i) < width
  pub monic : (i : ℕ) → i < length vectors → entry (row vectors i) (pivot (row vectors i)) ≡ 1
  pub different : (i k : ℕ) → i < k → k < length vectors → pivot (row vectors i) ≢ pivot (row vectors k)
  pub zero_before : (i k : ℕ) → i < k → k < length vectors → entry (row vectors k) (pivot (row vectors i)) ≡ 0

-- w is a multiple of s, reduced by the vectors before it
pub record IsReducedMultiple (p : ℕ) (before : List (List ℕ)) (s : ℕ → ℕ) (w : List ℕ) : Type 0 where
  pub factor : ℕ
  pub factor_not_zero : factor % p ≢ 0
  pub difference : IsInSpan p before (λ j. entry w j + (p - 1) * (factor * s j))
  pub zero_at_heads : (i : ℕ) → i < length before → entry w (pivot (row before i)) ≡ 0

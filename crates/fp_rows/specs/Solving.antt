-- The elimination of rows from the last to the first, with the combination that makes each row.
use Rattle.std.specs.Prelude.{◌≡◌, ℕ, ◌+◌, ◌<◌, ◌≤◌, List, length}
use Rattle.linear_algebra.specs.Rows.{entry, row, pivot, IsMatrix, IsEchelon, IsCombination, IsInSpan}
use Rattle.linear_algebra.specs.Kernels.{IsInKernel}

-- L is a reduced echelon list of the span of the rows from row k on, and row i of R the combination that
-- makes row i of L, without the rows
-- before row k and those at the pivots of K. K is a reduced echelon list of members of the kernel, without
-- the rows before row k.
pub record IsSolvedFrom (p width : ℕ) (rows : List (List ℕ)) (k : ℕ) (L R K : List (List ℕ)) : Type 0 where
  pub matrix : IsMatrix p width L
  pub echelon : IsEchelon L
  pub same_count : length R ≡ length L
  pub made_rows : IsMatrix p (length rows) R
  pub made : (i : ℕ) → i < length L → IsCombination p (entry (row R i)) rows (entry (row L i))
  pub later : (i t : ℕ) → i < length R → t < k → entry (row R i) t ≡ 0
  pub apart : (i j : ℕ) → i < length R → j < length K → entry (row R i) (pivot (row K j)) ≡ 0
  pub kernel_rows : IsMatrix p (length rows) K
  pub kernel_echelon : IsEchelon K
  pub kernel_later : (j : ℕ) → j < length K → k ≤ pivot (row K j)
  pub in_kernel : (j : ℕ) → j < length K → IsInKernel p rows (entry (row K j))
  pub spans : (t : ℕ) → k ≤ t → t < length rows → IsInSpan p L (entry (row rows t))
  pub count : length L + length K + k ≡ length rows

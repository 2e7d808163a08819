-- The rows of a reduced row echelon list, one at a time, and the first row that a list has otherwise.
use Rattle.std.specs.Prelude.{◌≡◌, ◌≢◌, ℕ, ◌<◌, List, length}
use Rattle.linear_algebra.specs.Rows.{entry, row, pivot}

-- row k of the list is not 0, its first entry that is not 0 is 1, its pivot comes after those of all earlier
-- rows, and it is 0 at the pivot of each other row
pub record IsReducedRow (rows : List (List ℕ)) (k : ℕ) : Type 0 where
  pub not_zero : pivot (row rows k) < length (row rows k)
  pub monic : entry (row rows k) (pivot (row rows k)) ≡ 1
  pub after_earlier : (i : ℕ) → i < k → pivot (row rows i) < pivot (row rows k)
  pub zero_at_others : (i : ℕ) → i < length rows → i ≢ k → entry (row rows k) (pivot (row rows i)) ≡ 0

-- each row is one of a reduced row echelon list
abbrev pub AreReducedRows : List (List ℕ) → Type 0
AreReducedRows rows = (k : ℕ) → k < length rows → IsReducedRow rows k

-- row k is none, and those before are
pub record IsFirstBadRow (rows : List (List ℕ)) (k : ℕ) : Type 0 where
  pub inside : k < length rows
  pub good_before : (i : ℕ) → i < k → IsReducedRow rows i
  pub bad_here : ¬ (IsReducedRow rows k)

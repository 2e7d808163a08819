-- Kernels of matrices, and the elimination of rows each followed by its unit row that finds them.
use Rattle.std.specs.Prelude.{◌≡◌, ◌≢◌, ℕ, suc, ◌+◌, ◌<◌, ◌≤◌, List, [], ◌∷◌, ◌++◌, length, drop, replicate}
use Rattle.std.specs.Prelude.{slice_set}
use Rattle.linear_algebra.specs.Modular.{IsCongruent}
use Rattle.linear_algebra.specs.Rows.{entry, row, combination, pivot, IsRow, IsMatrix, IsEchelon}
use Rattle.linear_algebra.specs.Rows.{IsCombination, IsInSpan}

-- the rows with the coefficients u combine to 0
abbrev pub IsInKernel : ℕ → List (List ℕ) → (ℕ → ℕ) → Type 0
IsInKernel p rows u = (j : ℕ) → IsCongruent p (combination u rows j) 0

-- rows is the reduced echelon list of the kernel of the generators
pub record IsKernelOf (p : ℕ) (generators rows : List (List ℕ)) : Type 0 where
  pub matrix : IsMatrix p (length generators) rows
  pub echelon : IsEchelon rows
  pub in_kernel : (i : ℕ) → i < length rows → IsInKernel p generators (entry (row rows i))
  pub spans : (u : List ℕ) → IsRow p (length generators) u → IsInKernel p generators (entry u)
      → IsInSpan p rows (entry u)

-- row i of the augmented list is row i of the generators and then the unit vector i
pub record IsAugmented (width : ℕ) (generators augmented : List (List ℕ)) : Type 0 where
  pub same_length : length augmented ≡ length generators
  pub left : (i j : ℕ) → i < length generators → j < width
      → entry (row augmented i) j ≡ entry (row generators i) j
  pub unit_one : (i : ℕ) → i < length generators → entry (row augmented i) (width + i) ≡ 1
  pub unit_zero : (i t : ℕ) → i < length generators → t ≢ i → entry (row augmented i) (width + t) ≡ 0

-- the right parts of the rows whose pivot is not below the width
pub record AreRightParts (width first : ℕ) (rows parts : List (List ℕ)) : Type 0 where
  pub count : first + length parts ≡ length rows
  pub before : (i : ℕ) → i < first → pivot (row rows i) < width
  pub after : (i : ℕ) → i < length parts → width ≤ pivot (row rows (first + i))
  pub each : (i : ℕ) → i < length parts → row parts i ≡ drop width (row rows (first + i))

-- the row of n entries that is 1 at place i and 0 elsewhere
abbrev pub unit_row : ℕ → ℕ → List ℕ
unit_row n i = slice_set (replicate n 0) i 1

-- the rows, and after row i the unit row start + i
abbrev pub augment_from : ℕ → ℕ → List (List ℕ) → List (List ℕ)
augment_from n start [] = []
augment_from n start (r ∷ rows) = (r ++ unit_row n start) ∷ augment_from n (suc start) rows

-- each row with its unit row
abbrev pub augment : List (List ℕ) → List (List ℕ)
augment rows = augment_from (length rows) 0 rows

-- t is one of the places
abbrev pub IsAmong : List ℕ → ℕ → Type 0
IsAmong places t = (k : ℕ) × (k < length places) × (entry places k ≡ t)

-- rows is the reduced echelon list of the span of those of the first n generators whose positions are not
-- among the skipped:
-- each row is a combination of the generators with the coefficient 0 at the skipped positions
pub record IsEchelonOfOthers (p width : ℕ) (generators : List (List ℕ)) (skipped : List ℕ) (n : ℕ)
    (rows : List (List ℕ)) : Type 0 where
  pub matrix : IsMatrix p width rows
  pub echelon : IsEchelon rows
  pub spanned : (i : ℕ) → i < length rows → (u : ℕ → ℕ)
      × ((t : ℕ) → IsAmong skipped t → IsCongruent p (u t) 0)
      × IsCombination p u generators (entry (row rows i))
  pub spans : (k : ℕ) → k < n → (IsAmong skipped k → ⊥) → IsInSpan p rows (entry (row generators k))

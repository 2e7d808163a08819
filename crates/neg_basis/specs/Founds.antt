-- What the work passes on from one call to the next.
use Rattle.std.specs.Prelude.{◌≡◌, ℕ, map}
use Rattle.linear_algebra.specs.Rows.{pivot, IsRow}
use Rattle.fp_rows.specs.Values.{RowValue}
use Rattle.neg_basis.specs.Bases.{IsBasis}
use Rattle.neg_basis.specs.declared.found.Found.{Found}

-- vectors of a basis with their heads, and beside them a row of their width
pub record IsReady (p width : ℕ) (found : Found) (v : RowValue) : Type 0 where
  pub same_field : found.vectors.p ≡ p
  pub same_width : found.vectors.width ≡ width
  pub basis : IsBasis p width found.vectors.rows
  pub heads_are : found.heads.items ≡ map pivot found.vectors.rows
  pub prime : v.p ≡ p
  pub row : IsRow p width v.entries

-- What matrices and echelon lists keep.
use Rattle.std.specs.Prelude.{◌≡◌, ℕ, List, map}
use Rattle.linear_algebra.specs.Rows.{pivot, IsMatrix, IsEchelon}
use Rattle.fp_rows.specs.Values.{RowValue, MatrixValue}
use Rattle.fp_rows.specs.Lists.{lists, AreOver}

-- rows of one width over p
pub record IsMatrixStore (p width : ℕ) (rows : List RowValue) : Type 0 where
  pub matrix : IsMatrix p width (lists rows)
  pub over : AreOver p rows

-- the rows of a reduced echelon list, with their pivots beside them
pub record IsEchelonStore (m : MatrixValue) (pivots : List ℕ) : Type 0 where
  pub matrix : IsMatrix m.p m.width m.rows
  pub echelon : IsEchelon m.rows
  pub pivots_are : pivots ≡ map pivot m.rows

-- What contracts see of rows, matrices and echelon lists.
use Rattle.std.specs.Prelude.{ℕ, List, length}
use Rattle.linear_algebra.specs.Rows.{IsRow}
use Rattle.fp_rows.specs.Cells.{cells_of, IsPackedFor}
use Rattle.fp_rows.specs.declared.cells.Cells.{Cells}

-- a row of numbers below p
pub record RowValue : Type 0 where
  pub p : ℕ
  pub entries : List ℕ

-- the numbers of a row as they are held: below p, and packed only where p is 2
pub record IsStored (p : ℕ) (cells : Cells) : Type 0 where
  pub row : IsRow p (length (cells_of cells)) (cells_of cells)
  pub packed : IsPackedFor p cells

-- rows of one width of numbers below p
pub record MatrixValue : Type 0 where
  pub p : ℕ
  pub width : ℕ
  pub rows : List (List ℕ)

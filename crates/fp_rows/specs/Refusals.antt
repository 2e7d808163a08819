-- Why a matrix is not taken as a reduced row echelon list.
use Rattle.std.specs.Prelude.{◌≡◌}
use Rattle.fp_rows.specs.Values.{MatrixValue}
use Rattle.fp_rows.specs.ReducedRows.{IsFirstBadRow}
use Rattle.fp_rows.specs.declared.from_rows.FromRows.{FromRows}
use Rattle.fp_rows.specs.declared.from_rows.FromRows.TheVariants.{Not, Memory}

-- the matrix is handed back with its first bad row; or memory was wanting, and it is handed back
abbrev pub HandsBack : MatrixValue → FromRows → Type 0
HandsBack m (Not k matrix) = (matrix ≡ m) × IsFirstBadRow m.rows k
HandsBack m (Memory matrix) = matrix ≡ m

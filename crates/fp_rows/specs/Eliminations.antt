-- The state of the elimination of rows from the last to the first.
use Rattle.std.specs.Prelude.{◌≡◌, ℕ, List, map, reverse}
use Rattle.linear_algebra.specs.Rows.{pivot}
use Rattle.fp_rows.specs.Lists.{lists, AreOver}
use Rattle.fp_rows.specs.Solving.{IsSolvedFrom}
use Rattle.fp_rows.specs.declared.kernels.Elimination.{Elimination}

-- the rows from row k on are eliminated
pub record IsElimination (p width : ℕ) (rows : List (List ℕ)) (k : ℕ) (e : Elimination) : Type 0 where
  pub solved : IsSolvedFrom p width rows k (lists e.rows.items) (lists e.made.items)
      (reverse (lists e.kernel.items))
  pub over : AreOver p e.rows.items
  pub made_over : AreOver p e.made.items
  pub kernel_over : AreOver p e.kernel.items
  pub pivots_are : e.pivots.items ≡ map pivot (lists e.rows.items)
  pub kernel_pivots_are : reverse e.kernel_pivots.items ≡ map pivot (reverse (lists e.kernel.items))

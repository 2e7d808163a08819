-- The members of the group algebra by their coefficients: sum coordinates and translates.
use Rattle.std.specs.Prelude.{◌≡◌, ℕ, ◌<◌, List}
use Rattle.group_table.specs.Tables.{GroupTable, IsInverse, order, product}
use Rattle.linear_algebra.specs.Modular.{IsCongruent, sum_below}
use Rattle.linear_algebra.specs.Rows.{entry, IsRow}

-- the n numbers x are the sum coordinates of the member with the coefficients a: the sum, and then the
-- coefficients but the first
pub record AreSumCoordinates (p n : ℕ) (a x : List ℕ) : Type 0 where
  pub coefficients : IsRow p n a
  pub coordinates : IsRow p n x
  pub sum : IsCongruent p (entry x 0) (sum_below n (entry a))
  pub others : (g : ℕ) → 0 < g → g < n → entry x g ≡ entry a g

-- the coefficients x are those of g times the member with the coefficients a
pub record IsTranslate (G : GroupTable) (g : ℕ) (a x : List ℕ) : Type 0 where
  pub inverse : ℕ
  pub is_inverse : IsInverse G g inverse
  pub is_row : IsRow G.p (order G) x
  pub each : (k : ℕ) → k < order G → entry x k ≡ entry a (product G inverse k)

-- Reduced echelon lists of subspaces of a module in coordinates, and the rows of all (g - 1) v.
use Rattle.std.specs.Prelude.{ℕ, suc, List, [], ◌∷◌, ◌++◌, map, length, ◌<◌}
use Rattle.group_modules.specs.Module.{Module, sub}
use Rattle.group_modules.specs.Field.{Below}
use Rattle.group_modules.specs.Sums.{below}
use Rattle.group_modules.specs.Tables.{Group, monoid}
use Rattle.linear_algebra.specs.Rows.{entry, row, IsMatrix, IsEchelon, IsInSpan}
use Rattle.radical_layers.specs.Coordinates.{RowForm}

-- rows is the reduced echelon list of the subspace S
pub record IsEchelonFor (p width : ℕ) (S : List ℕ → Type 0) (rows : List (List ℕ)) : Type 0 where
  pub matrix : IsMatrix p width rows
  pub echelon : IsEchelon rows
  pub members : (i : ℕ) → i < length rows → S (row rows i)
  pub spans : (x : List ℕ) → S x → IsInSpan p rows (entry x)

module _ {n q width : ℕ} (Γ : Group n) (M : Module (suc q) (monoid Γ)) (K : RowForm width M) where
  -- the row of (g - 1) v for the row x of v
  abbrev pub move_row : Below n → List ℕ → List ℕ
  move_row g x = K.row (sub M (M.act g (K.table x)) (K.table x))

  abbrev pub moves_by : List (Below n) → List (List ℕ) → List (List ℕ)
  moves_by [] rows = []
  moves_by (g ∷ gs) rows = map (move_row g) rows ++ moves_by gs rows

  -- all (g - 1) v with v among the rows
  abbrev pub moves : List (List ℕ) → List (List ℕ)
  moves rows = moves_by (below n) rows

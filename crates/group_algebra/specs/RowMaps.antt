-- Linear maps of free modules that are given by rows, and the blocks of a row in layer coordinates.
use Rattle.std.specs.Prelude.{◌≡◌, ◌<◌, ℕ, List, length}
use Rattle.linear_algebra.specs.Rows.{entry, row}
use Rattle.group_modules.specs.Module.{lin}
use Rattle.group_modules.specs.Field.{Below}
use Rattle.group_modules.specs.Tables.{terms}
use Rattle.radical_layers.specs.Placing.{place_of}
use Rattle.p_groups.specs.PGroups.{PGroup, largest_residue, group, order_of}
use Rattle.group_algebra.specs.Coordinates.{free_module, sizes, table_of, row_of}

-- the value at x of the linear map to kG^b that takes basis element k to row k
abbrev pub map_row : (G : PGroup) (b : ℕ) → List (List ℕ) → List ℕ → List ℕ
map_row G b rows x =
    row_of G b (lin (free_module G b) (λ (k : Below (length rows)). table_of G b (row rows k.0))
    (terms (largest_residue G) (group G) (length rows) (table_of G (length rows) x)))

-- a is block i of the row x of m blocks, as a row of kG
pub record IsBlock (G : PGroup) (m i : ℕ) (x a : List ℕ) : Type 0 where
  pub count : length a ≡ order_of G
  pub each : (k : ℕ) → k < order_of G → entry a k ≡ entry x (place_of (sizes G) m i k)

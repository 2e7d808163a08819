-- The values on rows of linear maps that are given by rows.
use Rattle.std.proofs.Common.{◌≡◌, ℕ, ◌*◌, ◌<◌, List, length, ap}
use mathlib.Core.Path.{subst, fun_ext}
use Rattle.group_modules.specs.Module.{lin}
use Rattle.group_modules.specs.Field.{Below}
use Rattle.group_modules.specs.Tables.{terms}
use Rattle.linear_algebra.specs.Rows.{row}
use Rattle.linear_algebra.specs.Kernels.{unit_row}
use Rattle.p_groups.specs.PGroups.{PGroup, largest_residue, group, order_of}
use Rattle.group_algebra.specs.Coordinates.{free_module, table_of, row_of}
use Rattle.group_algebra.specs.RowMaps.{map_row}

module _ (G : PGroup) where
  -- the row of the value at x of the linear map that takes basis element k to u(k)
  abbrev value_at : (b m : ℕ) → (Below m → (free_module G b).of) → List ℕ → List ℕ
  value_at b m u x =
      row_of G b (lin (free_module G b) u (terms (largest_residue G) (group G) m (table_of G m x)))

  -- the map by rows takes the basis to the tables of the rows
  pub map-by : (b m : ℕ) (rows : List (List ℕ)) → length rows ≡ m → (u : Below m → (free_module G b).of)
      → ((k : Below m) → table_of G b (row rows k.0) ≡ u k) → (x : List ℕ)
      → map_row G b rows x ≡ value_at b m u x
  map-by b m rows e = subst P e (λ u k x.
      ap (λ (u : Below (length rows) → (free_module G b).of). value_at b (length rows) u x) (fun_ext k))
    where
      P : ℕ → Type 0
      P m = (u : Below m → (free_module G b).of) → ((k : Below m) → table_of G b (row rows k.0) ≡ u k)
          → (x : List ℕ) → map_row G b rows x ≡ value_at b m u x

  -- M holds the values at the unit rows, one after the other
  pub record HoldsValues (b : ℕ) (rows M : List (List ℕ)) : Type 0 where
    pub count : length M ≡ order_of G * length rows
    pub each : (j : ℕ) → j < order_of G * length rows
        → row M j ≡ map_row G b rows (unit_row (order_of G * length rows) j)

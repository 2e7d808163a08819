-- What stands at the unit rows in layer coordinates.
use Rattle.std.specs.Prelude.{◌≡◌, ◌≢◌, ℕ, length, ◌*◌}
use Rattle.group_modules.specs.Module.{lin, times}
use Rattle.group_modules.specs.Field.{Below, residue}
use Rattle.group_modules.specs.Sums.{below, total}
use Rattle.group_modules.specs.Tables.{Group, Table, terms}
use Rattle.linear_algebra.specs.Rows.{row}
use Rattle.linear_algebra.specs.Kernels.{unit_row}
use Rattle.radical_layers.specs.Coordinates.{RowForm, Coordinates}
use Rattle.radical_layers.specs.Placing.{place_of}
use Rattle.radical_layers.specs.LayerBasis.{Layers, layer_basis, layer_sizes}

-- the unit row at the place of block i and member k is member k of the layer basis in block i; and a linear
-- map takes it to that member times row i
pub record UnitClaims {n : ℕ} (q : ℕ) (Γ : Group n) (K : RowForm n (Table q Γ 1)) (Y : Layers)
    (C : Coordinates q Γ) : Type 0 where
  pub own_block : (b : ℕ) (i : Below b) (k : Below (length (layer_basis Y)))
      → (λ z g. (C b).table (unit_row (n * b) (place_of (layer_sizes Y) b i.0 k.0)) i g) ≡ K.table
      (row (layer_basis Y) k.0)
  pub other_block : (b : ℕ) (i : Below b) (k : Below (length (layer_basis Y))) (i' : Below b) → i'.0 ≢ i.0
      → (λ z g. (C b).table (unit_row (n * b) (place_of (layer_sizes Y) b i.0 k.0)) i' g) ≡ (Table q Γ 1).zero
  pub value : (b m : ℕ) (u : Below b → (Table q Γ m).of) (i : Below b) (k : Below (length (layer_basis Y)))
      → lin (Table q Γ m) u (terms q Γ b
      ((C b).table (unit_row (n * b) (place_of (layer_sizes Y) b i.0 k.0))))
      ≡ total (Table q Γ m) (below n) (λ g. times (Table q Γ m).add (Table q Γ m).zero
      (K.table (row (layer_basis Y) k.0) (residue 0 0) g).0 ((Table q Γ m).act g (u i)))

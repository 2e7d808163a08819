-- The group algebra kG in sum coordinates, its radical layers, and the free modules kG^b in layer
-- coordinates.
-- The sum coordinates, the layers and the layer coordinates are members of existence proofs. There is one
-- family of layers (`one_layers_law` of `radical_layers`),
-- and sum and layer coordinates are fixed by what they must satisfy.
use Rattle.std.specs.Prelude.{◌≡◌, ℕ, suc, List}
use Rattle.linear_algebra.specs.Rows.{entry, row, IsRow}
use Rattle.group_modules.specs.Module.{Module, lin}
use Rattle.group_modules.specs.Field.{Below, residue}
use Rattle.group_modules.specs.Tables.{monoid, Table, terms}
use Rattle.radical_layers.specs.Coordinates.{RowForm, Coordinates}
use Rattle.radical_layers.specs.LayerBasis.{Layers, layer_basis, layer_sizes}
use Rattle.p_groups.specs.PGroups.{PGroup, largest_residue, group, order_of, prime_of}
use Rattle.p_groups.proofs.Layers.{sum_coordinates_exist, layers_exist, layer_claims_of}

module _ (G : PGroup) where
  -- the free module kG^b, of tables of numbers below p
  abbrev pub free_module : (b : ℕ) → Module (suc (largest_residue G)) (monoid (group G))
  free_module b = Table (largest_residue G) (group G) b

  -- the sum coordinates of a member of kG: the sum of its coefficients, and then the coefficients of the
  -- elements 1, 2 and so on
  abbrev pub sum_coordinates : RowForm (order_of G) (free_module 1)
  sum_coordinates = (sum_coordinates_exist G).0

  -- the radical layers of kG, in sum coordinates
  abbrev pub layers : Layers
  layers = (layers_exist G sum_coordinates).0

  -- the layer coordinates of the members of kG^b, for each b
  abbrev pub layer_coordinates : Coordinates (largest_residue G) (group G)
  layer_coordinates b = (layer_claims_of G sum_coordinates layers
      (layers_exist G sum_coordinates).1).coordinates b

  -- the layer coordinates of the table v of kG^b, and the table with the layer coordinates x
  abbrev pub row_of : (b : ℕ) → (free_module b).of → List ℕ
  row_of b v = (layer_coordinates b).row v

  abbrev pub table_of : (b : ℕ) → List ℕ → (free_module b).of
  table_of b x = (layer_coordinates b).table x

  -- the sizes of the layers
  abbrev pub sizes : List ℕ
  sizes = layer_sizes layers

  -- member k of the layer basis
  abbrev pub member : ℕ → (free_module 1).of
  member k = sum_coordinates.table (row (layer_basis layers) k)

  -- the product of a member of kG and one of kG^b: the value at a of the linear map that takes 1 to v
  abbrev pub product_with : (b : ℕ) → (free_module 1).of → (free_module b).of → (free_module b).of
  product_with b a v = lin (free_module b) (λ i. v) (terms (largest_residue G) (group G) 1 a)

  -- the numbers a are the coefficients of v, by element number
  pub record AreCoefficients (a : List ℕ) (v : (free_module 1).of) : Type 0 where
    pub is_row : IsRow (prime_of G) (order_of G) a
    pub each : (g : Below (order_of G)) → entry a g.0 ≡ (v (residue 0 0) g).0

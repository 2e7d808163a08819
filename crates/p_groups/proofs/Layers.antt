-- The sum coordinates and the radical layers of the group algebra of a p-group.
use Rattle.std.specs.Prelude.{ℕ}
use Rattle.group_modules.specs.Tables.{Table}
use Rattle.radical_layers.specs.Coordinates.{RowForm}
use Rattle.radical_layers.specs.LayerBasis.{Layers, IsSumForm, AreLayers, LayerBasisClaims}
use Rattle.radical_layers.proofs.SumForm.{sum-form, sum-first, sum-others}
use Rattle.radical_layers.proofs.LayersExist.{layers-exist}
use Rattle.radical_layers.proofs.FirstLayer.{layer-basis-claims}
use Rattle.p_groups.specs.PGroups.{PGroup, largest_residue, group, order_of}
use Rattle.p_groups.proofs.Fields.{field, prime_power}

module _ (G : PGroup) where
  -- sum coordinates are given by a rule
  pub sum_coordinates_exist : (K : RowForm (order_of G) (Table (largest_residue G) (group G) 1))
      × IsSumForm (largest_residue G) (group G) K
  sum_coordinates_exist = (
    sum-form (largest_residue G) (group G) G.law.law.some,
    record {
      first = sum-first (largest_residue G) (group G) G.law.law.some;
      others = sum-others (largest_residue G) (group G) G.law.law.some;
    },
  )

  -- the radical layers exist, in any coordinates
  pub layers_exist : (K : RowForm (order_of G) (Table (largest_residue G) (group G) 1))
      → (Y : Layers) × AreLayers (largest_residue G) (group G) K Y
  layers_exist K = layers-exist (largest_residue G) (field G) (group G) K (prime_power G)

  -- and make a layer basis
  pub layer_claims_of : (K : RowForm (order_of G) (Table (largest_residue G) (group G) 1)) (Y : Layers)
      → AreLayers (largest_residue G) (group G) K Y → LayerBasisClaims (largest_residue G) (group G) K Y
  layer_claims_of K Y a = layer-basis-claims (largest_residue G) (field G) (group G) K Y a

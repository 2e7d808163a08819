-- The sum coordinates, the radical layers and the layer basis of the group algebra of a p-group are what
-- their names say.
use Rattle.radical_layers.specs.LayerBasis.{IsSumForm, AreLayers, LayerBasisClaims}
use Rattle.p_groups.specs.PGroups.{PGroup, largest_residue, group}
use Rattle.p_groups.proofs.Layers.{sum_coordinates_exist, layers_exist, layer_claims_of}
use Rattle.group_algebra.specs.Coordinates.{sum_coordinates, layers}

module _ (G : PGroup) where
  abbrev pub sum_coordinates_are : IsSumForm (largest_residue G) (group G) (sum_coordinates G)
  sum_coordinates_are = (sum_coordinates_exist G).1

  abbrev pub layers_are : AreLayers (largest_residue G) (group G) (sum_coordinates G) (layers G)
  layers_are = (layers_exist G (sum_coordinates G)).1

  abbrev pub layer_claims : LayerBasisClaims (largest_residue G) (group G) (sum_coordinates G) (layers G)
  layer_claims = layer_claims_of G (sum_coordinates G) (layers G) layers_are

-- The product of classes of a p-group, on vectors and on rows.
use Rattle.std.specs.Prelude.{ℕ, ◌+◌, List}
use Rattle.p_groups.specs.PGroups.{PGroup, largest_residue, group}
use Rattle.group_algebra.specs.Coordinates.{layer_coordinates}
use Rattle.min_res.specs.Stages.{stage_rows, rank_of}
use Rattle.chain_maps.specs.Multiply as chain_maps
use Rattle.chain_maps.specs.Vectors.{Vector, vector, entries}

module _ (G : PGroup) where
  -- the product of the class v of degree d and the class w of degree e, of which w is lifted
  abbrev pub multiply : ℕ → ℕ → Vector (largest_residue G) → Vector (largest_residue G)
      → Vector (largest_residue G)
  multiply d e v w =
      chain_maps.multiply (largest_residue G) (group G) (layer_coordinates G) (stage_rows G) d e v w

  -- the same on rows
  abbrev pub product_row : ℕ → ℕ → List ℕ → List ℕ → List ℕ
  product_row d e a c =
      entries (rank_of G (d + e)) (multiply d e (vector (largest_residue G) a) (vector (largest_residue G) c))

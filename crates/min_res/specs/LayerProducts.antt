-- The products by the members of layer 1 of the layer basis of a p-group, on rows in layer coordinates.
use Rattle.std.specs.Prelude.{◌≡◌, ℕ, ◌<◌, length}
use Rattle.radical_generators.specs.Claims.{maps}
use Rattle.p_groups.specs.PGroups.{PGroup, largest_residue, group}
use Rattle.group_algebra.specs.Coordinates.{layers, sum_coordinates, layer_coordinates}

module _ (G : PGroup) where
  -- how many members layer 1 has
  abbrev pub layer_count : ℕ
  layer_count = length ((layers G).positions 1)

  -- layer 1 has `count` members, and `before` members stand before them in the layer basis
  pub record AreFirst (before count : ℕ) : Type 0 where
    pub count_is : count ≡ layer_count
    pub before_is : 0 < count → before ≡ length ((layers G).positions 0)
    pub some : 0 < count → 1 < (layers G).count

  module _ (b : ℕ) where
    -- the products by the members of layer 1 on rows of kG^b
    abbrev pub layer_products : ℕ → (ℕ → ℕ) → ℕ → ℕ
    layer_products = maps (largest_residue G) (group G) (sum_coordinates G) (layers G) b
        (layer_coordinates G b)

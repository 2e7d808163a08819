-- The comparison map of a p-group from its normalised bar complex to its minimal resolution (Brown,
-- "Cohomology of Groups", I.7), at the elements with given numbers.
use Rattle.std.specs.Prelude.{ℕ, suc, List, map}
use Rattle.group_modules.specs.Module.{lin}
use Rattle.group_modules.specs.Field.{Below}
use Rattle.group_modules.specs.Tables.{monoid}
use Rattle.bar_complex.specs.Tuples.{Tuple, tuple}
use Rattle.bar_complex.specs.Boundary as bar
use Rattle.bar_comparison.specs.Comparison.{comparison}
use Rattle.p_groups.specs.PGroups.{PGroup, largest_residue, group, order_of}
use Rattle.group_algebra.specs.Coordinates.{free_module, layer_coordinates, row_of}
use Rattle.min_res.specs.Stages.{stage_rows, rank_of}
use Rattle.chain_lift.specs.Embeddings.{element_of}

module _ (G : PGroup) where
  -- the tuple of the d elements with these numbers
  abbrev pub tuple_of : (d : ℕ) → List ℕ → Tuple (Below (order_of G)) d
  tuple_of d xs = tuple (group G).one d (map (element_of G) xs)

  -- where the comparison map takes a tuple of d elements
  abbrev pub compared : (d : ℕ) → Tuple (Below (order_of G)) d → (free_module G (rank_of G d)).of
  compared = comparison (largest_residue G) (group G) (layer_coordinates G) (stage_rows G)

  -- where it takes the boundary of a tuple of d + 1 elements
  abbrev pub compared_boundary : (d : ℕ) → Tuple (Below (order_of G)) (suc d)
      → (free_module G (rank_of G d)).of
  compared_boundary d t =
      lin (free_module G (rank_of G d)) (compared d) (bar.boundary (largest_residue G) (monoid (group G)) d t)

  -- the layer coordinates of both, at the elements with these numbers
  abbrev pub compared_row : ℕ → List ℕ → List ℕ
  compared_row d xs = row_of G (rank_of G d) (compared d (tuple_of d xs))

  abbrev pub boundary_row : ℕ → List ℕ → List ℕ
  boundary_row d xs = row_of G (rank_of G d) (compared_boundary d (tuple_of (suc d) xs))

-- The maps of a lift by their rows.
use Rattle.std.specs.Prelude.{◌≡◌, ℕ, ◌*◌, List, length}
use Rattle.group_modules.specs.Field.{Below}
use Rattle.linear_algebra.specs.Rows.{row}
use Rattle.fp_rows.specs.Values.{MatrixValue}
use Rattle.p_groups.specs.PGroups.{PGroup, largest_residue, group, order_of, prime_of}
use Rattle.group_algebra.specs.Coordinates.{layer_coordinates, row_of}
use Rattle.min_res.specs.Stages.{stage_rows, rank_of}
use Rattle.chain_maps.specs.Lifts.{ahead, lift}
use Rattle.chain_maps.specs.Vectors.{vector}

module _ (G : PGroup) (q : ℕ) (c : List ℕ) where
  -- row i of the map of degree j of the lift of c, a class of degree q
  abbrev pub lift_row : (j : ℕ) → Below (rank_of G (ahead q j)) → List ℕ
  lift_row j i =
      row_of G (rank_of G j)
      (lift (largest_residue G) (group G) (layer_coordinates G) (stage_rows G) q
      (λ k. vector (largest_residue G) c k.0) j i)

  -- m has the rows of this map
  pub record IsLiftMap (j : ℕ) (m : MatrixValue) : Type 0 where
    pub prime : m.p ≡ prime_of G
    pub width : m.width ≡ order_of G * rank_of G j
    pub count : length m.rows ≡ rank_of G (ahead q j)
    pub each : (i : Below (rank_of G (ahead q j))) → row m.rows i.0 ≡ lift_row j i

-- Chain maps from the minimal resolution of a p-group to that of another one of the same prime along a map
-- of elements, and the restriction of classes. They are those of any two groups, in chain_maps_along, where
-- the law for homomorphisms stands too.
use Rattle.std.specs.Prelude.{◌≡◌, ℕ, ◌*◌, List, length}
use Rattle.group_table.specs.Tables.{IsGroupTable}
use Rattle.group_modules.specs.Field.{Below}
use Rattle.linear_algebra.specs.Rows.{row}
use Rattle.fp_rows.specs.Values.{MatrixValue}
use Rattle.p_groups.specs.PGroups.{PGroup, largest_residue, group, order_of, prime_of}
use Rattle.group_algebra.specs.Coordinates.{free_module, layer_coordinates, row_of}
use Rattle.min_res.specs.Stages.{stage_rows, rank_of}
use Rattle.chain_maps.specs.Vectors.{Vector, vector, entries, extended}
use Rattle.chain_maps_along.specs.Along as along

-- the table of a group of p^rank elements for the prime p of G
pub record TableOverPrimeOf (G : PGroup) : Type 0 where
  pub rank : ℕ
  pub entries : List ℕ
  pub law : IsGroupTable (record { p = prime_of G; n = rank; entries = entries })

-- the p-group with this table
abbrev pub with_table : (G : PGroup) → TableOverPrimeOf G → PGroup
with_table G D = record {
  table = record { p = prime_of G; n = D.rank; entries = D.entries };
  law = record { law = D.law; prime = G.law.prime };
}

module _ (G : PGroup) (D : TableOverPrimeOf G) (f : Below (order_of (with_table G D)) → Below (order_of G))
  where
    -- the smaller group, of which the map takes elements to those of G
    abbrev pub domain : PGroup
    domain = with_table G D

    -- what the map of degree d takes basis element i to
    abbrev pub image : (d : ℕ) → Below (rank_of domain d) → (free_module G (rank_of G d)).of
    image d i = along.image (largest_residue G) (group domain) (group G) f (layer_coordinates domain)
        (stage_rows domain)
        (layer_coordinates G) (stage_rows G) d i

    -- its layer coordinates: row i of the map
    abbrev pub along_row : (d : ℕ) → Below (rank_of domain d) → List ℕ
    along_row d i = row_of G (rank_of G d) (image d i)

    -- m has the rows of the map of degree d
    pub record IsMapAlong (d : ℕ) (m : MatrixValue) : Type 0 where
      pub prime : m.p ≡ prime_of G
      pub width : m.width ≡ order_of G * rank_of G d
      pub count : length m.rows ≡ rank_of domain d
      pub each : (i : Below (rank_of domain d)) → row m.rows i.0 ≡ along_row d i

    -- the restriction of a class of degree d, on vectors: its value at the images of the basis
    abbrev pub restrict : ℕ → Vector (largest_residue G) → Vector (largest_residue G)
    restrict d v = extended (rank_of domain d)
        (along.restrict (largest_residue G) (group domain) (group G) f (layer_coordinates domain)
        (stage_rows domain)
        (layer_coordinates G) (stage_rows G) d (λ k. v k.0))

    -- the same on rows
    abbrev pub restricted_row : ℕ → List ℕ → List ℕ
    restricted_row d x = entries (rank_of domain d) (restrict d (vector (largest_residue G) x))

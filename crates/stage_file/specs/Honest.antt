-- The stage file of a p-group.
use Rattle.std.specs.Prelude.{◌≡◌, ℕ, suc, List, length}
use Rattle.std.specs.declared.option.Option.{Option}
use Rattle.group_table.specs.Prime.{prime_value}
use Rattle.p_groups.specs.PGroups.{PGroup, largest_residue, group, order_of, prime_of}
use Rattle.group_algebra.specs.Coordinates.{layer_coordinates}
use Rattle.min_res.specs.Stages.{stage_rows}
use Rattle.stage_records.specs.declared.shape.Shape.{Shape}
use Rattle.stage_records.specs.Records.{header_bytes, record_at}
use Rattle.stage_records.specs.Verdicts.{VerdictClaims}
use Rattle.stage_records.specs.Walks.{Walked, walk, stage_bytes}

module _ (G : PGroup) where
  -- the record of each degree from 1 on whose free module is no wider than a record holds
  abbrev pub records_of : ℕ → Option (List ℕ)
  records_of d = record_at (order_of G) (stage_rows G) d

  -- the honest file of c records, for a presentation with this canonical text
  abbrev pub file_of : List ℕ → ℕ → List ℕ
  file_of text c = stage_bytes (header_bytes text) records_of c

  -- the walk over a file, to c records at most
  abbrev pub walk_of : List ℕ → ℕ → List ℕ → Walked
  walk_of text c file = walk (header_bytes text) records_of c file

  -- the shape of the record of degree d + 1
  pub record IsShapeAt (d : ℕ) (shape : Shape) : Type 0 where
    pub prime : prime_value shape.p ≡ prime_of G
    pub order : shape.order ≡ order_of G
    pub degree : shape.degree ≡ suc d
    pub previous : shape.previous ≡ length ((stage_rows G).kernel d)

  -- the reading and the six checks decide as the walk does
  abbrev pub IsVerdict : ℕ → Shape → List ℕ → Type 0
  IsVerdict d shape bytes =
      VerdictClaims (largest_residue G) (group G) (layer_coordinates G) (stage_rows G) d shape bytes

-- The verdict on the next record of a file, by its reading and the six checks, against the walk.
use Rattle.std.specs.Prelude.{◌≡◌, ℕ, suc, ◌+◌, List, length, drop}
use Rattle.group_table.specs.Prime.{prime_value}
use Rattle.group_modules.specs.Tables.{Group}
use Rattle.group_modules.specs.Resolutions.{rank}
use Rattle.radical_layers.specs.Coordinates.{Coordinates}
use Rattle.resolution_stages.specs.Definitions.{StageRows}
use Rattle.resolution_stages.specs.Checks.{StageParts, HasShape, HasCount, PassesChecks}
use Rattle.resolution_stages.specs.Chain.{parts_of}
use Rattle.stage_records.specs.declared.shape.Shape.{Shape}
use Rattle.stage_records.specs.declared.field.Field.{Field}
use Rattle.stage_records.specs.Records.{record_at}
use Rattle.stage_records.specs.Walks.{length_at, Ends, Takes, Refuses, next}
use Rattle.stage_records.specs.Readings.{Cut, Whole, Malformed, read_record}

module _ {n : ℕ} (q : ℕ) (Γ : Group n) (K : Coordinates q Γ) (S : StageRows) (d : ℕ) where
  -- the shape of the record of degree d + 1
  pub record IsShapeOf (shape : Shape) : Type 0 where
    pub prime : prime_value shape.p ≡ suc q
    pub order : shape.order ≡ n
    pub degree : shape.degree ≡ suc d
    pub previous : shape.previous ≡ length (S.kernel d)

  -- the shape and the checks of parts that follow the stage of degree d
  abbrev pub Follows : StageParts → Type 0
  Follows Q = HasShape q Γ K (rank q Γ S.ranks d) (S.kernel d) Q
      × HasCount q Γ K (rank q Γ S.ranks d) (S.kernel d) Q

  abbrev pub Passes : StageParts → Type 0
  Passes Q = PassesChecks q Γ K (rank q Γ S.ranks d) (S.kernel d) Q

  pub record VerdictClaims (shape : Shape) (bytes : List ℕ) : Type 0 where
    -- the walk ends exactly at a record that is cut
    pub cut : read_record shape bytes ≡ Cut → next (record_at n S (suc d)) bytes ≡ Ends
    pub malformed : (f : Field) → read_record shape bytes ≡ Malformed f
        → next (record_at n S (suc d)) bytes ≡ Refuses
    -- parts that are read have the shape that the checks ask for
    pub follows : (Q : StageParts) → read_record shape bytes ≡ Whole Q → Follows Q
    -- a whole record that passes is the honest one, and the walk takes it
    pub passed : (Q : StageParts) → read_record shape bytes ≡ Whole Q → Passes Q
        → (Q ≡ parts_of S d)
        × (next (record_at n S (suc d)) bytes ≡ Takes (drop (4 + length_at bytes) bytes))
    pub failed : (Q : StageParts) → read_record shape bytes ≡ Whole Q → (Passes Q → ⊥)
        → next (record_at n S (suc d)) bytes ≡ Refuses
    -- what the walk takes is whole, and passes
    pub taken : (rest : List ℕ) → next (record_at n S (suc d)) bytes ≡ Takes rest
        → (read_record shape bytes ≡ Whole (parts_of S d)) × Passes (parts_of S d)

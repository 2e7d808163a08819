-- The file that stages are saved to, as it grows.
use Rattle.std.specs.Prelude.{◌≡◌, ◌⊎◌, ℕ, ◌<◌, List, ◌++◌, take, ⊤}
use Rattle.std.specs.declared.option.Option.{Option}
use Rattle.std.specs.declared.option.Option.TheVariants.{Some}
use Rattle.coho_io.specs.Content.{Content, or_empty}
use Rattle.limits.specs.declared.TheConstants.{GREATEST_DIMENSION}
use Rattle.p_groups.specs.PGroups.{PGroup}
use Rattle.stage_records.specs.Walks.{stage_bytes}
use Rattle.stage_file.specs.Honest.{records_of}
use Rattle.stage_walk.specs.declared.fault.StagesFault.{StagesFault}
use Rattle.stage_walk.specs.declared.fault.StagesFault.TheVariants as fault
use Rattle.stage_walk.specs.Dimensions.{dimension, IsFirstAbove}
use Rattle.stage_walk.specs.Faults.{RoseAt}
use Rattle.stage_walk.specs.Saved.{saved}

-- a call stopped only at a fault of writing the path that is named, whose count rose, or for want of memory
abbrev pub IsWriteStop : Option (List ℕ) → (before now : List ℕ → ℕ) → StagesFault → Type 0
IsWriteStop named before now fault.Write = RoseAt named before now
IsWriteStop named before now fault.Memory = ⊤
IsWriteStop named before now _ = ⊥

-- the stage of degree d is too large, or memory was wanting
abbrev pub IsTooLarge : PGroup → ℕ → StagesFault → Type 0
IsTooLarge G d (fault.TooLarge e X) = (e ≡ d) × (X ≡ dimension G d) × (GREATEST_DIMENSION < X)
IsTooLarge G d fault.Memory = ⊤
IsTooLarge G d _ = ⊥

-- the record of degree d, and nothing where there is none
abbrev pub record_of : PGroup → ℕ → List ℕ
record_of G d = or_empty (records_of G d)

-- the file of n records that begins with this header
abbrev pub file_with : List ℕ → PGroup → ℕ → List ℕ
file_with header G n = stage_bytes header (records_of G) n

module _ (named : Option (List ℕ)) (bytes : List ℕ) (old new : Option Content) where
  -- told files have these bytes under the path
  abbrev pub Holds : Type 0
  Holds = (told : Content) → old ≡ Some told → new ≡ Some (saved named bytes told)

  -- they are as before, or have the first bytes of these
  abbrev pub HoldsFront : Type 0
  HoldsFront = (told : Content) → old ≡ Some told
      → (new ≡ Some told) ⊎ ((k : ℕ) × (new ≡ Some (saved named (take k bytes) told)))

  -- what the path had gained these bytes
  abbrev pub Gains : Type 0
  Gains = (told : Content) (before : List ℕ) → old ≡ Some (saved named before told)
      → new ≡ Some (saved named (before ++ bytes) told)

  -- or the first bytes of these
  abbrev pub GainsFront : Type 0
  GainsFront = (told : Content) (before : List ℕ) → old ≡ Some (saved named before told)
      → (k : ℕ) × (new ≡ Some (saved named (before ++ take k bytes) told))

  -- what a stage that is not saved leaves: nothing was written of one that is too large
  abbrev pub LeavesStage : StagesFault → Type 0
  LeavesStage (fault.TooLarge d X) = new ≡ old
  LeavesStage _ = GainsFront

  -- what stages that are not all saved leave: all that there are, before one that is too large
  abbrev pub LeavesStages : StagesFault → Type 0
  LeavesStages (fault.TooLarge d X) = Holds
  LeavesStages _ = HoldsFront

module _ (G : PGroup) (d : ℕ) (named : Option (List ℕ)) (before now : List ℕ → ℕ) where
  -- why the stage of degree d is not saved
  abbrev pub IsStageStop : StagesFault → Type 0
  IsStageStop (fault.TooLarge e X) = (e ≡ d) × (X ≡ dimension G d) × (GREATEST_DIMENSION < X)
  IsStageStop e = IsWriteStop named before now e

  -- why the stages to degree d are not all saved
  abbrev pub IsStagesStop : StagesFault → Type 0
  IsStagesStop (fault.TooLarge e X) = IsFirstAbove G d e X
  IsStagesStop e = IsWriteStop named before now e

-- Why there are no stages to the last degree.
use Rattle.std.specs.Prelude.{◌≡◌, ℕ, ◌-◌, ◌≤◌, List, ⊤}
use Rattle.std.specs.declared.option.Option.{Option}
use Rattle.std.specs.declared.option.Option.TheVariants.{Some}
use Rattle.coho_io.specs.Causes.{Rose}
use Rattle.coho_io.specs.Content.{Content}
use Rattle.p_groups.specs.PGroups.{PGroup}
use Rattle.stage_records.specs.Walks as walks
use Rattle.stage_walk.specs.declared.fault.StagesFault.{StagesFault}
use Rattle.stage_walk.specs.declared.fault.StagesFault.TheVariants as fault
use Rattle.stage_walk.specs.Asked.{Asked, AfterWalk, WalkRefuses}
use Rattle.stage_walk.specs.Dimensions.{Fit, IsFirstAbove}

-- a record that is refused has a number to n, and the dimensions of the degrees before it are not above the
-- limit
abbrev pub IsNumbered : PGroup → ℕ → StagesFault → Type 0
IsNumbered G n (fault.Record d) = (1 ≤ d) × (d ≤ n) × Fit G (d - 1)
IsNumbered G n _ = ⊤

-- the count of the path that is named rose
abbrev pub RoseAt : Option (List ℕ) → (before now : List ℕ → ℕ) → Type 0
RoseAt named before now = (path : List ℕ) × (named ≡ Some path) × Rose (before path) (now path)

module _ (A : Asked) (known : Option Content) where
  -- the file to take stages from could not be read, or this is refused of it; or memory was wanting
  abbrev pub IsWalkStop : (before now : List ℕ → ℕ) → StagesFault → Type 0
  IsWalkStop before now fault.Read = RoseAt A.from before now
  IsWalkStop before now fault.Header = WalkRefuses A known walks.Header
  IsWalkStop before now fault.Presentation = WalkRefuses A known walks.Presentation
  IsWalkStop before now (fault.Record d) = WalkRefuses A known (walks.Record d)
  IsWalkStop before now (fault.TooLarge d X) = ⊥
  IsWalkStop before now fault.Write = ⊥
  IsWalkStop before now fault.Memory = ⊤

  -- nothing is refused of that file, and the first dimension above the limit is that of degree d, or the file
  -- to save to could not be written; else the walk stopped
  abbrev pub IsStagesFault : (reads reads_now writes writes_now : List ℕ → ℕ) → StagesFault → Type 0
  IsStagesFault reads reads_now writes writes_now (fault.TooLarge d X) =
      IsFirstAbove A.group A.degree d X × AfterWalk A known (λ _. ⊤)
  IsStagesFault reads reads_now writes writes_now fault.Write =
      RoseAt A.save writes writes_now × AfterWalk A known (λ _. ⊤)
  IsStagesFault reads reads_now writes writes_now e = IsWalkStop reads reads_now e

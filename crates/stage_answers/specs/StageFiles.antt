-- The steps that read one stage file and write another.
use Rattle.std.specs.Prelude.{◌≡◌, ◌⊎◌, ℕ, List, take, MatchOption}
use Rattle.std.specs.declared.option.Option.{Option}
use Rattle.std.specs.declared.option.Option.TheVariants.{None, Some}
use Rattle.std.specs.declared.result.Result.TheVariants.{Ok}
use Rattle.coho_io.specs.Content.{Content, file}
use Rattle.power_commutator.specs.Presentations.{Presentation}
use Rattle.pc_text.specs.Canonical.{canonical}
use Rattle.stage_records.specs.Walks.{Walked}
use Rattle.stage_file.specs.Honest.{file_of, walk_of}
use Rattle.stage_walk.specs.Saved.{saved}
use Rattle.coho_steps.specs.Groups.{ForGroupOf}
use Rattle.stage_answers.specs.Stages.{IsStageRefusal}
use Rattle.stage_walk.specs.Dimensions.{Fit}
use Rattle.coho_steps.specs.Steps.{◌>>=◌, Refusal, Step, Gives, Refuses, OnGroup}
use Rattle.coho_steps.specs.Refusals.{file_refused, read_refused}
use Rattle.coho_words.specs.Words.{StageFiles}

-- the walk takes k records and refuses nothing
abbrev pub Takes : Walked → ℕ → Type 0
Takes w k = w ≡ record { taken = k; fault = None }

-- the refusal is that of the walk
abbrev pub IsWalkRefusal : Walked → Refusal → Type 0
IsWalkRefusal w refusal = MatchOption w.fault ⊥ (λ fault. refusal ≡ file_refused fault)

-- the number of records that a walk over these bytes takes, c at most, or what it refuses
abbrev pub Walk : Presentation → ℕ → List ℕ → Step ℕ
Walk P c bytes =
    OnGroup P (λ G k. Takes (walk_of G (canonical P) c bytes) k)
    (λ G refusal. IsWalkRefusal (walk_of G (canonical P) c bytes) refusal)

abbrev pub OrMissing : List ℕ → Option (List ℕ) → (List ℕ → Step ℕ) → Step ℕ
OrMissing path None next = Refuses (read_refused path)
OrMissing path (Some bytes) next = next bytes

-- the same over the file at a path
abbrev pub WalkFile : Presentation → ℕ → List ℕ → Step ℕ
WalkFile P c path files = OrMissing path (file files path) (Walk P c) files

-- the number of stages that are taken from the file that is named, to degree n
abbrev pub TakeStages : Presentation → ℕ → Option (List ℕ) → Step ℕ
TakeStages P n None = Gives 0
TakeStages P n (Some path) = WalkFile P n path

-- no stage to degree n is above the limit, or the first one
abbrev pub FitStages : Presentation → ℕ → Step (Unit {0})
FitStages P n = OnGroup P (λ G _. Fit G n) (λ G refusal. IsStageRefusal G n refusal)

-- the honest file to degree n was saved, which stops before the first stage above the limit
abbrev pub IsSaved : Presentation → ℕ → Option (List ℕ) → Content → Content → Type 0
IsSaved P n save old new = ForGroupOf P (λ G. new ≡ saved save (file_of G (canonical P) n) old)

-- nothing is refused of the file that stages are taken from
abbrev pub AreTaken : Presentation → ℕ → Option (List ℕ) → Content → Type 0
AreTaken P n from files = (k : ℕ) × TakeStages P n from files (Ok k) files

-- the files are as before, or nothing is refused of the file that stages are taken from, and the first bytes
-- of the honest file to degree n were saved
abbrev pub IsFrontSaved : Presentation → ℕ → StageFiles → Content → Content → Type 0
IsFrontSaved P n files old new = (new ≡ old)
    ⊎ (AreTaken P n files.from old
    × ForGroupOf P (λ G. (k : ℕ) × (new ≡ saved files.save (take k (file_of G (canonical P) n)) old)))

-- the stages are found and saved, or those before the first one above the limit are
abbrev pub SaveStages : Presentation → ℕ → Option (List ℕ) → Step (Unit {0})
SaveStages P n save old end new = FitStages P n old end old × IsSaved P n save old new

-- all of the one file is read before the other is made
abbrev pub FindStages : Presentation → ℕ → StageFiles → Step (Unit {0})
FindStages P n files = do
  _ ← TakeStages P n files.from
  SaveStages P n files.save

-- What a command and a run leave of the files.
use Rattle.std.specs.Prelude.{◌≡◌, ◌⊎◌, ℕ, Bool, false, List, Vec}
use Rattle.std.specs.declared.alloc.Global.{Global}
use Rattle.std.specs.declared.option.Option.{Option}
use Rattle.std.specs.declared.option.Option.TheVariants.{Some}
use Rattle.std.specs.declared.result.Result.{Result}
use Rattle.std.specs.declared.result.Result.TheVariants.{Ok}
use Rattle.std.specs.Result.{IfErr}
use Rattle.std.specs.Str.{bytes_eq}
use Rattle.coho_io.specs.Content.{Content, file}
use Rattle.power_commutator.specs.Presentations.{Presentation}
use Rattle.coho_steps.specs.declared.stop.Stop.{Stop}
use Rattle.coho_run.specs.InTurn.{MayRead, MaySave}
use Rattle.coho_run.specs.Outcome.{Comes}
use Rattle.coho_steps.specs.Loading.{Load}
use Rattle.stage_answers.specs.StageFiles.{AreTaken, IsFrontSaved}
use Rattle.coho_steps.specs.Stops.{HasCause, KeepsAtRead, Meets}
use Rattle.coho_words.specs.Words.{Command, Ring, StageFiles, command, from_of, path_of}
use Rattle.coho_steps.specs.Lines.{contents}
use Rattle.coho_steps.specs.Told.{OfTold, FromTo}

-- a command on P leaves the files, or has saved the first bytes of the honest file
abbrev pub CommandLeaves : Command → Presentation → Content → Content → Type 0
CommandLeaves (Ring path n stages) P old new = IsFrontSaved P n stages old new
CommandLeaves _ P old new = new ≡ old

-- a command on P comes to save stages
abbrev pub ComesToSave : Command → Presentation → Content → Type 0
ComesToSave (Ring path n stages) P files = AreTaken P n stages.from files
ComesToSave _ P files = ⊥

-- the words ask for a ring, and the first bytes of the honest file were saved
pub record SavesFront (words : List (List ℕ)) (old new : Content) : Type 0 where
  pub path : List ℕ
  pub n : ℕ
  pub stages : StageFiles
  pub asked : command words ≡ Some (Ring path n stages)
  pub presentation : Presentation
  pub loaded : Load path old (Ok presentation) old
  pub saved : IsFrontSaved presentation n stages old new

-- the words leave the files, or have saved the first bytes of the honest file
abbrev pub WordsLeave : List (List ℕ) → Content → Content → Type 0
WordsLeave words old new = (new ≡ old) ⊎ SavesFront words old new

-- the answer to words came so
pub record Answered
    (words : List (List ℕ)) (known now : Option Content) (reads reads_now writes writes_now : List ℕ → ℕ)
    (r : Result (Vec (Vec ℕ Global) Global) Stop) : Type 0 where
  pub ends : FromTo known now (λ files left. Meets (λ lines. contents lines.items) (Comes words) files left r)
  pub cause : IfErr r (HasCause (MayRead words known) (MaySave words known)
      reads reads_now writes writes_now)
  pub left : OfTold known now (WordsLeave words)
  pub kept : IfErr r (KeepsAtRead known now)

-- both are named, and are the same
abbrev pub same_path : Option (List ℕ) → Option (List ℕ) → Bool
same_path (Some path) (Some other) = bytes_eq path other
same_path _ _ = false

-- the stage file that the command reads is the file of its presentation
abbrev pub reads_twice : Command → Bool
reads_twice c = same_path (path_of c) (from_of c)

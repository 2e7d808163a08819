-- Which files a run comes to read and to save to: those before which no step refuses.
use Rattle.std.specs.Prelude.{◌≡◌, ◌⊎◌, ℕ, List}
use Rattle.std.specs.declared.option.Option.{Option}
use Rattle.std.specs.declared.option.Option.TheVariants.{Some}
use Rattle.std.specs.declared.result.Result.TheVariants.{Ok}
use Rattle.coho_io.specs.Content.{Content}
use Rattle.power_commutator.specs.Presentations.{Presentation}
use Rattle.coho_run.specs.Outcome.{Given}
use Rattle.coho_steps.specs.Loading.{Load}
use Rattle.stage_answers.specs.StageFiles.{AreTaken}
use Rattle.coho_words.specs.Words.{Command, Ring, StageFiles, IsRead, IsSaved, command, from_of, path_of}
use Rattle.coho_steps.specs.Told.{WhereTold}

-- the presentation that a command is asked about is consistent
abbrev pub HasPresentation : Command → Content → Type 0
HasPresentation c files = (P : Presentation) × Given c files (Ok P) files

-- the path is that of the command's file, or the presentation is had and the path is that of its stage file
abbrev pub ComesToRead : Command → List ℕ → Content → Type 0
ComesToRead c path files = (path_of c ≡ Some path) ⊎ ((from_of c ≡ Some path) × HasPresentation c files)

-- no step before the first reading of the path refuses: it is that of the file of the words, or the
-- presentation is consistent and it is that of the stage file
abbrev pub IsReadInTurn : List (List ℕ) → List ℕ → Content → Type 0
IsReadInTurn words path files = (c : Command) × (command words ≡ Some c) × ComesToRead c path files

-- no step before the making of the file to save to refuses: the words ask for a ring and name the path, the
-- presentation is consistent, and nothing is refused of the file that stages are taken from
pub record IsSavedInTurn (words : List (List ℕ)) (path : List ℕ) (files : Content) : Type 0 where
  pub file : List ℕ
  pub n : ℕ
  pub stages : StageFiles
  pub asked : command words ≡ Some (Ring file n stages)
  pub named : stages.save ≡ Some path
  pub presentation : Presentation
  pub loaded : Load file files (Ok presentation) files
  pub taken : AreTaken presentation n stages.from files

-- the words read the path, in its turn where files are told
abbrev pub MayRead : List (List ℕ) → Option Content → List ℕ → Type 0
MayRead words known path = IsRead words path × WhereTold known (IsReadInTurn words path)

-- the words save to the path, in its turn where files are told
abbrev pub MaySave : List (List ℕ) → Option Content → List ℕ → Type 0
MaySave words known path = IsSaved words path × WhereTold known (IsSavedInTurn words path)

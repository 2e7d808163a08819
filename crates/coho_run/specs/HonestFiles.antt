-- Stage files of which nothing is refused.
use Rattle.std.specs.Prelude.{◌≡◌, ℕ, List, ◌∷◌, ◌++◌, codes, take}
use Rattle.std.specs.declared.option.Option.{Option}
use Rattle.std.specs.declared.option.Option.TheVariants.{None, Some}
use Rattle.std.specs.declared.result.Result.TheVariants.{Ok}
use Rattle.limits.specs.declared.TheConstants.{GREATEST_DEGREE}
use Rattle.coho_io.specs.Content.{Content, file}
use Rattle.p_groups.specs.PGroups.{PGroup}
use Rattle.pc_text.specs.Canonical.{canonical}
use Rattle.power_commutator.specs.Presentations.{Presentation}
use Rattle.stage_file.specs.Honest.{file_of, walk_of}
use Rattle.coho_steps.specs.Groups.{IsTableOf, ForGroupOf}
use Rattle.coho_steps.specs.Loading.{Load}
use Rattle.coho_words.specs.Words.{Ring, command}
use Rattle.coho_words.specs.Words.{StageFiles}

-- the walk to record n refuses nothing of these bytes
abbrev pub IsAccepted : Presentation → ℕ → List ℕ → Type 0
IsAccepted P n bytes = (G : PGroup) → IsTableOf P G → (walk_of G (canonical P) n bytes).fault ≡ None

-- they are a front of the honest file
abbrev pub IsHonestFile : Presentation → List ℕ → Type 0
IsHonestFile P bytes = ForGroupOf P (λ G.
    (k : ℕ) × (bytes ≡ take k (file_of G (canonical P) GREATEST_DEGREE)))

-- the stage file is there, and nothing is refused of it, for the presentation in the file
pub record IsAcceptedFile (path : List ℕ) (n : ℕ) (from : List ℕ) (files : Content) : Type 0 where
  pub bytes : List ℕ
  pub there : file files from ≡ Some bytes
  pub accepted : (P : Presentation) (left : Content) → Load path files (Ok P) left → IsAccepted P n bytes

-- the words ask for a ring with a file to take stages from, and the others are these words with `--from` and
-- the file's word taken out
pub record AreWordsWithout (words fewer : List (List ℕ)) (path : List ℕ) (n : ℕ)
    (from : List ℕ) : Type 0 where
  pub before : List (List ℕ)
  pub after : List (List ℕ)
  pub words_are : words ≡ codes "ring" ∷ (before ++ codes "--from" ∷ from ∷ after)
  pub fewer_are : fewer ≡ codes "ring" ∷ (before ++ after)
  pub stages : StageFiles
  pub asked : command words ≡ Some (Ring path n stages)

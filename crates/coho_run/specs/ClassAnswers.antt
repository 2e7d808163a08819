-- What an answer to `resolve` or to `ring` says of the classes of the group.
use Rattle.std.specs.Prelude.{◌≡◌, ◌⊎◌, ℕ, ◌≤◌, List}
use Rattle.std.specs.declared.option.Option.TheVariants.{Some}
use Rattle.std.specs.declared.result.Result.TheVariants.{Ok}
use Rattle.coho_io.specs.Content.{Content}
use Rattle.power_commutator.specs.Presentations.{Presentation}
use Rattle.ring_answers.specs.Evaluating.{AreCocycleClasses}
use Rattle.coho_steps.specs.Groups.{ForGroupOf}
use Rattle.coho_steps.specs.Loading.{Load}
use Rattle.coho_words.specs.Words.{Resolve, Ring, StageFiles, command}

-- for the group of the presentation in the file, the classes of each degree through n are the cocycles of its
-- bar complex up to coboundaries
pub record HasCocycleClasses (path : List ℕ) (n : ℕ) (files : Content) : Type 0 where
  pub presentation : Presentation
  pub left : Content
  pub loaded : Load path files (Ok presentation) left
  pub classes : ForGroupOf presentation (λ G. (d : ℕ) → d ≤ n → AreCocycleClasses G d)

-- the same where the words ask for a resolution or for a ring
abbrev pub HasCocycleClassesOf : List (List ℕ) → Content → Type 0
HasCocycleClassesOf words files =
    (path : List ℕ) (n : ℕ) (stages : StageFiles)
    → (command words ≡ Some (Resolve path n)) ⊎ (command words ≡ Some (Ring path n stages))
    → HasCocycleClasses path n files

-- What an answer to `ring` says of the cohomology ring of the group.
use Rattle.std.specs.Prelude.{◌≡◌, ℕ, List}
use Rattle.std.specs.declared.option.Option.{Option}
use Rattle.std.specs.declared.option.Option.TheVariants.{Some}
use Rattle.std.specs.declared.result.Result.TheVariants.{Ok}
use Rattle.std.specs.Io.KnownBytes.{Appends}
use Rattle.coho_io.specs.Content.{Content}
use Rattle.power_commutator.specs.Presentations.{Presentation}
use Rattle.p_groups.specs.PGroups.{PGroup}
use Rattle.coho_report.specs.Values.{ReportValue}
use Rattle.coho_report.specs.Lines.{report_text}
use Rattle.coho_report.specs.Cohomology.{IsCohomologyReport}
use Rattle.coho_steps.specs.Groups.{IsTableOf}
use Rattle.coho_steps.specs.Loading.{Load}
use Rattle.coho_words.specs.Words.{Ring, StageFiles, command}
use Rattle.coho_run.specs.ClassAnswers.{HasCocycleClassesOf}
use Rattle.coho_run.specs.Outcome.{Ending, Outcome}
use Rattle.coho_run.specs.Run.{EndsAs}
use Rattle.coho_steps.specs.declared.status.Status.{Status}

-- for the group of the presentation in the file, the text is that of a report whose numbers, generators,
-- relations and tables are those of the cohomology ring of the bar complex through degree n
pub record IsRingText (path : List ℕ) (n : ℕ) (files : Content) (text : List ℕ) : Type 0 where
  pub presentation : Presentation
  pub left : Content
  pub loaded : Load path files (Ok presentation) left
  pub group : PGroup
  pub is_table : IsTableOf presentation group
  pub report : ReportValue
  pub text_is : text ≡ report_text report
  pub cohomology : IsCohomologyReport group n report

-- the same where the words ask for a ring
abbrev pub IsRingTextOf : List (List ℕ) → Content → List ℕ → Type 0
IsRingTextOf words files text =
    (path : List ℕ) (n : ℕ) (stages : StageFiles) → command words ≡ Some (Ring path n stages)
    → IsRingText path n files text

-- out gained such a text
abbrev pub TellsRing : List ℕ → ℕ → Content → Option (List ℕ) → Option (List ℕ) → Type 0
TellsRing path n files old new = (text : List ℕ) × IsRingText path n files text × Appends old new text

-- the same where the words ask for a ring
abbrev pub TellsRingOf : List (List ℕ) → Option (List ℕ) → Option (List ℕ) → Content → Type 0
TellsRingOf words old new files =
    (path : List ℕ) (n : ℕ) (stages : StageFiles) → command words ≡ Some (Ring path n stages)
    → TellsRing path n files old new

-- over these files a run ended with the outcome; where the words ask for a ring, the bytes that are the
-- outcome's tell it, and the classes are cocycles
pub record AnswersOver
    (words : List (List ℕ)) (answer : Status) (known known_now : Option Content)
    (out out_now err err_now : Option (List ℕ)) (err_faults err_faults_now : ℕ)
    (files : Content) : Type 0 where
  pub ending : Ending
  pub outcome : Outcome words files ending
  pub ends : EndsAs ending answer known known_now out out_now err err_now err_faults err_faults_now
  pub ring : IsRingTextOf words files ending.out
  pub classes : HasCocycleClassesOf words files

-- The answers to `ring`, `value` and `sample`, as steps on a presentation.
use Rattle.std.specs.Prelude.{ℕ, List, [], ◌∷◌, length, codes, nat_le, ◌-◌}
use Rattle.std.specs.declared.option.Option.{Option}
use Rattle.std.specs.declared.option.Option.TheVariants.{None, Some}
use Rattle.std.specs.List.{find}
use Rattle.power_commutator.specs.Presentations.{Presentation}
use Rattle.coho_steps.specs.Steps.{◌>>=◌, Step, Gives, Refuses, OnGroup}
use Rattle.coho_steps.specs.Refusals.{element_refused}
use Rattle.coho_words.specs.Words.{StageFiles}
use Rattle.stage_answers.specs.StageFiles.{FindStages, FitStages}
use Rattle.ring_answers.specs.Evaluating.{HasClass, IsClassRefusal, IsValue}
use Rattle.ring_answers.specs.Ringing.{IsReportTo, IsReportRefusal}
use Rattle.coho_report.specs.Values.{ReportValue}
use Rattle.coho_report.specs.Lines.{report_lines, numbered, summary_lines}
use Rattle.coho_steps.specs.Loading.{order}
use Rattle.coho_steps.specs.Lines.{line}

-- the report on the cohomology ring through degree n, or the first subgroup over which a stage is too large
abbrev pub Report : Presentation → ℕ → Step ReportValue
Report P n = OnGroup P (λ G report. IsReportTo G n report) (λ G refusal. IsReportRefusal G n refusal)

abbrev pub UnlessElement : ℕ → Option ℕ → Step (Unit {0})
UnlessElement n None = Gives tt
UnlessElement n (Some E) = Refuses (element_refused E n)

-- each element is below the order, or the first one that is not
abbrev pub FitElements : Presentation → List ℕ → Step (Unit {0})
FitElements P es = UnlessElement (order P) (find (nat_le (order P)) es)

-- degree d has a class number k, or fewer
abbrev pub FitClass : Presentation → ℕ → ℕ → Step (Unit {0})
FitClass P d k = OnGroup P (λ G _. HasClass G d k) (λ G refusal. IsClassRefusal G d k refusal)

-- the value of the cocycle of class k at the elements
abbrev pub Evaluate : Presentation → ℕ → List ℕ → Step ℕ
Evaluate P k es = OnGroup P (λ G v. IsValue G k es v) (λ G refusal. ⊥)

-- the number, and the summary of the report
abbrev pub sample_lines : ℕ → ReportValue → List (List ℕ)
sample_lines k r = numbered (codes "sample ") k ∷ summary_lines r

-- the lines of the report
abbrev pub TellReport : Presentation → ℕ → Step (List (List ℕ))
TellReport P n = do
  report ← Report P n
  Gives (report_lines report)

-- the stages are found, and then the report is told
abbrev pub AnswerRing : Presentation → ℕ → StageFiles → Step (List (List ℕ))
AnswerRing P n files = do
  _ ← FindStages P n files
  TellReport P n

-- the answer to `value`: elements, stages and class fit, and then the cocycle is evaluated
abbrev pub AnswerValue : Presentation → ℕ → List ℕ → Step (List (List ℕ))
AnswerValue P k es = do
  _ ← FitElements P es
  _ ← FitStages P (length es)
  _ ← FitClass P (length es) k
  v ← Evaluate P k es
  Gives (line (codes "value ") v ∷ [])

-- the ring of the product that k names, through degree 4
abbrev pub AnswerSample : Presentation → ℕ → Step (List (List ℕ))
AnswerSample P k = do
  _ ← FitStages P 4
  report ← Report P 4
  Gives (sample_lines k report)

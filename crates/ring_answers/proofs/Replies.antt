-- The answers to `ring`, `value` and `sample`, as the calls make them.
use Rattle.std.proofs.Common.{◌≡◌, List, [], ◌∷◌, codes, length, ℕ, refl, ap, inl, inr}
use Rattle.std.specs.declared.result.Result.{Result}
use Rattle.std.specs.declared.result.Result.TheVariants.{Ok, Err}
use Rattle.coho_report.specs.Values.{ReportValue}
use Rattle.coho_report.specs.Lines.{report_lines}
use Rattle.power_commutator.specs.Presentations.{Presentation}
use Rattle.coho_steps.specs.declared.stop.Stop.{Stop}
use Rattle.coho_steps.specs.Groups.{ForGroupOf}
use Rattle.ring_answers.specs.Answers.{Report, FitElements, FitClass, Evaluate, TellReport, AnswerValue}
use Rattle.ring_answers.specs.Answers.{AnswerSample, sample_lines}
use Rattle.stage_answers.specs.StageFiles.{FitStages}
use Rattle.coho_steps.specs.Lines.{line, contents}
use Rattle.ring_answers.specs.Evaluating.{HasClass, IsClassRefusal, IsValue}
use Rattle.ring_answers.specs.Ringing.{IsReportTo, IsReportRefusal}
use Rattle.stage_answers.specs.Stages.{IsStageRefusal}
use Rattle.stage_walk.specs.Dimensions.{Fit}
use Rattle.coho_steps.specs.Steps.{Step, ◌>>=◌, Gives}
use Rattle.coho_steps.specs.Stops.{IsRefused, Settles}
use Rattle.coho_steps.proofs.Chain.{refused_settles, settled_after_ok, settled_at_stop}
use Rattle.coho_steps.proofs.Lines.{Lines, lines_of}
use Rattle.stage_answers.proofs.Replies.{StageRefusal}

abbrev pub report_answer : ReportValue → Step (List (List ℕ))
report_answer report = Gives (report_lines report)

abbrev pub value_answer : ℕ → Step (List (List ℕ))
value_answer v = Gives (line (codes "value ") v ∷ [])

module _ (P : Presentation) (k : ℕ) (es : List ℕ) where
  abbrev pub after_class : Unit {0} → Step (List (List ℕ))
  after_class _ = Evaluate P k es >>= value_answer

  abbrev pub after_stages : Unit {0} → Step (List (List ℕ))
  after_stages _ = FitClass P (length es) k >>= after_class

  abbrev pub after_elements : Unit {0} → Step (List (List ℕ))
  after_elements _ = FitStages P (length es) >>= after_stages

abbrev pub sample_answer : ℕ → ReportValue → Step (List (List ℕ))
sample_answer k report = Gives (sample_lines k report)

abbrev pub after_sample_fit : Presentation → ℕ → Unit {0} → Step (List (List ℕ))
after_sample_fit P k _ = Report P 4 >>= sample_answer k

module _ (P : Presentation) (n : ℕ) where
  pub ring_too_large : (s : Stop) → IsRefused (λ refusal. ForGroupOf P (λ G. IsReportRefusal G n refusal)) s
      → Settles lines_of (TellReport P n) (Err s)
  ring_too_large s h =
      refused_settles lines_of (TellReport P n)
      (λ refusal. ForGroupOf P (λ G. IsReportRefusal G n refusal)) s h
      (λ r q files. inr (r, (q, refl), refl))

  pub ring_then : (report : ReportValue) (lines : Lines) → ForGroupOf P (λ G. IsReportTo G n report)
      → contents lines.items ≡ report_lines report → Settles lines_of (TellReport P n) (Ok lines)
  ring_then report lines is e = λ files. inl (report, files, (is, refl), (ap (λ ls. Ok ls) e, refl))

module _ (P : Presentation) (k : ℕ) (es : List ℕ) where
  abbrev unit : Unit {0} → Unit {0}
  unit _ = tt

  pub element_stop : (s : Stop) → Settles unit (FitElements P es) (Err s)
      → Settles lines_of (AnswerValue P k es) (Err s)
  element_stop s h = settled_at_stop unit lines_of (FitElements P es) (after_elements P k es) s h

  module _ (elements : Settles unit (FitElements P es) (Ok tt)) where
    then_stages : (r : Result Lines Stop) → Settles lines_of (after_elements P k es tt) r
        → Settles lines_of (AnswerValue P k es) r
    then_stages r h = settled_after_ok unit lines_of (FitElements P es)
        (after_elements P k es) tt r elements h

    pub stage_stop : (s : Stop)
        → IsRefused (λ refusal. ForGroupOf P (λ G. IsStageRefusal G (length es) refusal)) s
        → Settles lines_of (AnswerValue P k es) (Err s)
    stage_stop s h =
        then_stages (Err s)
        (refused_settles lines_of (after_elements P k es tt)
        (λ refusal. ForGroupOf P (λ G. IsStageRefusal G (length es) refusal)) s h
        (λ r q files. inr (r, (q, refl), refl)))

    module _ (fit : ForGroupOf P (λ G. Fit G (length es))) where
      pub class_stop : (s : Stop)
          → IsRefused (λ refusal. ForGroupOf P (λ G. IsClassRefusal G (length es) k refusal)) s
          → Settles lines_of (AnswerValue P k es) (Err s)
      class_stop s h =
          then_stages (Err s)
          (refused_settles lines_of (after_elements P k es tt)
          (λ refusal. ForGroupOf P (λ G. IsClassRefusal G (length es) k refusal)) s h
          (λ r q files. inl (tt, files, (fit, refl), inr (r, (q, refl), refl))))

      pub value_then : (v : ℕ) (lines : Lines) → ForGroupOf P (λ G. HasClass G (length es) k)
          → ForGroupOf P (λ G. IsValue G k es v) → contents lines.items ≡ line (codes "value ") v ∷ []
          → Settles lines_of (AnswerValue P k es) (Ok lines)
      value_then v lines has is e =
          then_stages (Ok lines) (λ files. inl (
            tt,
            files,
            (fit, refl),
            inl (tt, files, (has, refl), inl (v, files, (is, refl), (ap (λ ls. Ok ls) e, refl))),
          ))

module _ (P : Presentation) (k : ℕ) where
  pub sample_refused : (s : Stop) → IsRefused (StageRefusal P 4) s
      → Settles lines_of (AnswerSample P k) (Err s)
  sample_refused s h = refused_settles lines_of (AnswerSample P k) (StageRefusal P 4) s h
      (λ r q files. inr (r, (q, refl), refl))

  module _ (fit : ForGroupOf P (λ G. Fit G 4)) where
    pub sample_too_large : (s : Stop)
        → IsRefused (λ refusal. ForGroupOf P (λ G. IsReportRefusal G 4 refusal)) s
        → Settles lines_of (AnswerSample P k) (Err s)
    sample_too_large s h =
        refused_settles lines_of (AnswerSample P k)
        (λ refusal. ForGroupOf P (λ G. IsReportRefusal G 4 refusal)) s h
        (λ r q files. inl (tt, files, (fit, refl), inr (r, (q, refl), refl)))

    pub sample_then : (report : ReportValue) (lines : Lines) → ForGroupOf P (λ G. IsReportTo G 4 report)
        → contents lines.items ≡ sample_lines k report → Settles lines_of (AnswerSample P k) (Ok lines)
    sample_then report lines is e = λ files. inl (
      tt,
      files,
      (fit, refl),
      inl (report, files, (is, refl), (ap (λ ls. Ok ls) e, refl)),
    )

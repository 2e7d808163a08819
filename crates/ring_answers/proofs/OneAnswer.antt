-- The answers to `ring`, `value` and `sample` end in one way.
use Rattle.std.proofs.Common.{ℕ, List, [], ◌∷◌, codes, length, nat_le}
use Rattle.std.specs.Prelude.{⊤}
use Rattle.std.specs.List.{find}
use Rattle.std.specs.declared.option.Option.{Option}
use Rattle.std.specs.declared.option.Option.TheVariants.{None, Some}
use Rattle.power_commutator.specs.Presentations.{Presentation}
use Rattle.coho_report.specs.Lines.{report_lines}
use Rattle.coho_words.specs.Words.{StageFiles}
use Rattle.coho_steps.specs.Lines.{line}
use Rattle.coho_steps.specs.Loading.{order}
use Rattle.coho_steps.proofs.Loaded.{IsLoaded, on, table_of}
use Rattle.coho_steps.proofs.Proper.{IsProper, gives, refuses, then, weaker}
use Rattle.stage_answers.specs.StageFiles.{FindStages, FitStages}
use Rattle.stage_answers.proofs.OneResolution.{fit_decided}
use Rattle.stage_answers.proofs.StageSteps.{find_stages}
use Rattle.ring_answers.specs.Answers.{AnswerRing, AnswerSample, AnswerValue, Evaluate, FitClass, FitElements}
use Rattle.ring_answers.specs.Answers.{Report, TellReport, UnlessElement, sample_lines}
use Rattle.ring_answers.proofs.OneValue.{class_decided, value_decided}
use Rattle.ring_answers.proofs.Replies.{after_class, after_elements, after_sample_fit, after_stages}
use Rattle.ring_answers.proofs.Replies.{report_answer, sample_answer, value_answer}
use Rattle.ring_answers.proofs.Ringing.{report_decided}

unless_element : (n : ℕ) (o : Option ℕ) → IsProper ⊤ (UnlessElement n o)
unless_element n None = gives tt
unless_element n (Some E) = refuses _ (λ e. tt)

module _ (P : Presentation) (is : IsLoaded P) where
  tell_report : (n : ℕ) → IsProper ⊥ (TellReport P n)
  tell_report n = then (Report P n) report_answer (on P is _ _ (report_decided n))
      (λ report old mid h. gives (report_lines report))

  pub answer_ring : (n : ℕ) (files : StageFiles) → IsProper ⊥ (AnswerRing P n files)
  answer_ring n files = let t = table_of P is in
      then (FindStages P n files) (λ _. TellReport P n) (find_stages P t.0 t.1 n files)
      (λ _ old mid h. tell_report n)

  pub answer_value : (k : ℕ) (es : List ℕ) → IsProper ⊤ (AnswerValue P k es)
  answer_value k es =
      then (FitElements P es) (after_elements P k es) (unless_element (order P) (find (nat_le (order P)) es))
      (λ _ old mid h.
      then (FitStages P (length es)) (after_stages P k es)
      (weaker (FitStages P (length es)) (on P is _ _ (fit_decided (length es)))) (λ _ old mid h.
      then (FitClass P (length es) k) (after_class P k es) (on P is _ _ (class_decided (length es) k))
      (λ _ old mid h.
      then (Evaluate P k es) value_answer (on P is _ _ (value_decided k es))
      (λ v old mid h. gives (line (codes "value ") v ∷ [])))))

  pub answer_sample : (k : ℕ) → IsProper ⊥ (AnswerSample P k)
  answer_sample k =
      then (FitStages P 4) (after_sample_fit P k) (on P is _ _ (fit_decided 4)) (λ _ old mid h.
      then (Report P 4) (sample_answer k) (on P is _ _ (report_decided 4))
      (λ report old mid h. gives (sample_lines k report)))

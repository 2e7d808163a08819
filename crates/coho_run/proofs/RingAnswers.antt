-- An answer to `ring` tells the cohomology ring.
use Rattle.std.proofs.Common.{◌≡◌, ◌≢◌, List, ℕ, inl, inr, sym, subst, ap, ◌∙◌}
use Rattle.std.specs.declared.option.Option.{Option}
use Rattle.std.specs.declared.option.Option.TheVariants.{None, Some}
use Rattle.std.specs.declared.result.Result.{Result}
use Rattle.std.specs.declared.result.Result.TheVariants.{Ok}
use Rattle.std.specs.List.{concat}
use Rattle.std.specs.Io.KnownBytes.{Appends}
use Rattle.coho_io.specs.Content.{Content}
use Rattle.power_commutator.specs.Presentations.{Presentation}
use Rattle.coho_report.specs.Lines.{report_lines}
use Rattle.coho_report.proofs.CohomologyReports.{cohomology-report}
use Rattle.coho_steps.specs.declared.status.Status.{Status}
use Rattle.coho_steps.specs.declared.cause.Cause.{Cause}
use Rattle.coho_steps.specs.declared.stop.Stop.{Stop}
use Rattle.coho_steps.specs.Loading.{Load}
use Rattle.ring_answers.specs.Answers.{AnswerRing, TellReport}
use Rattle.coho_run.specs.Outcome.{Reply, Comes}
use Rattle.coho_steps.specs.Refusals.{words_refused}
use Rattle.coho_run.specs.RingAnswers.{TellsRing, TellsRingOf}
use Rattle.coho_steps.specs.Told.{OfFiles, FromTo}
use Rattle.coho_steps.specs.Steps.{Refusal, OrRefuse}
use Rattle.coho_steps.specs.Stops.{Meets, refusal_of, told}
use Rattle.coho_words.specs.Words.{Ring, StageFiles, command}
use Rattle.coho_steps.proofs.Lines.{Lines, lines_of}
use Rattle.coho_run.proofs.Runs.{Reported}
use Rattle.coho_steps.specs.declared.status.Status.TheVariants as status
use Rattle.coho_steps.specs.declared.cause.Cause.TheVariants as cause
use Rattle.coho_steps.specs.declared.stop.Stop.TheVariants as stop
use Rattle.coho_run.specs.RingAnswers.{IsRingText}

abbrev Answers : Type 0
Answers = List (List ℕ)

pub some_is : {A : Type 0} (o : Option A) (x y : A) (old new : Content)
    → OrRefuse words_refused o old (Ok y) new
    → o ≡ Some x → (y ≡ x) × (new ≡ old)
some_is None x y old new h e = absurd (let no = e in cc)
some_is (Some z) x y old new h e = ((let first = h.0 in let second = e in cc), h.1)

module _ (path : List ℕ) (n : ℕ) (stages : StageFiles) (files : Content) (lines : Answers) where
  of_report : (P : Presentation) (left mid end : Content) → Load path files (Ok P) left
      → TellReport P n mid (Ok lines) end → IsRingText path n files (concat lines)
  of_report P left mid end load (inr h) = absurd (let no = h.2 in cc)
  of_report P left mid end load (inl h) =
      let same : ◌≡◌ {A = Result Answers Refusal} (Ok lines) (Ok (report_lines h.0)) = h.3.0 in
      let told : lines ≡ report_lines h.0 = cc in
      record {
        presentation = P;
        left = left;
        loaded = load;
        group = h.2.0.group;
        is_table = h.2.0.is_table;
        report = h.0;
        text_is = ap (λ (ls : Answers). concat ls) told;
        cohomology = cohomology-report h.2.0.group n h.0 h.2.0.holds.is;
      }

  of_fit : (P : Presentation) (left end : Content) → Load path files (Ok P) left
      → AnswerRing P n stages left (Ok lines) end → IsRingText path n files (concat lines)
  of_fit P left end load (inr h) = absurd (let no = h.2 in cc)
  of_fit P left end load (inl h) = of_report P left h.1 end load h.3

  of_reply : (end : Content) → Reply (Ring path n stages) files (Ok lines) end
      → IsRingText path n files (concat lines)
  of_reply end (inr h) = absurd (let no = h.2 in cc)
  of_reply end (inl h) = of_fit h.0 h.1 end h.2 h.3

  pub of_words : (words : List (List ℕ)) (end : Content) → Comes words files (Ok lines) end
      → command words ≡ Some (Ring path n stages) → IsRingText path n files (concat lines)
  of_words words end (inr h) e = absurd (let no = h.2 in cc)
  of_words words end (inl h) e =
      let is = some_is (command words) (Ring path n stages) h.0 files h.1 h.2 e in
      of_reply end
      (subst (λ mid. Reply (Ring path n stages) mid (Ok lines) end) is.1
      (subst (λ asked. Reply asked h.1 (Ok lines) end) is.0 h.3))

-- an answer that was written
pub tells_ring : (words : List (List ℕ)) (known now : Option Content) (lines : Lines) (old new : Option
    (List ℕ))
    → FromTo known now (λ files after. Meets lines_of (Comes words) files after (Ok lines))
    → Appends old new (concat (lines_of lines)) → OfFiles known (TellsRingOf words old new)
tells_ring words known now lines old new h wrote = (
  h.0,
  h.2,
  λ path n stages e.
      (concat (lines_of lines), of_words path n stages h.0 (lines_of lines) words h.1 h.4 e, wrote),
)

-- no stop has the status of an answer
cause_not_answered : (why : Cause) → (refusal_of why).status ≢ status.Answered
cause_not_answered cause.Words e = cc
cause_not_answered cause.Length e = cc
cause_not_answered (cause.Text kind line column) e = cc
cause_not_answered cause.Order e = cc
cause_not_answered (cause.Inconsistent name) e = cc
cause_not_answered (cause.StageFile part) e = cc
cause_not_answered (cause.Stage d X) e = cc
cause_not_answered (cause.SubgroupStage i d X) e = cc
cause_not_answered (cause.Element E n) e = cc
cause_not_answered (cause.Class d b) e = cc

not_answered : (s : Stop) → (told s).status ≢ status.Answered
not_answered (stop.Refused why) e = cause_not_answered why e
not_answered (stop.Read path) e = cc
not_answered stop.Write e = cc
not_answered (stop.Save path) e = cc
not_answered stop.Memory e = cc

-- a run that stopped is not answered
pub stop_not_answered : {P : Type 0} (s : Stop) (ended : Status) (err err_now : Option (List ℕ)) (k m : ℕ)
    → Reported s ended err err_now k m → ended ≡ status.Answered → P
stop_not_answered s ended err err_now k m r e =
    absurd (not_answered s (sym (r (λ is. let no : status.Answered ≡ status.Memory = sym e ∙ is in cc)).0
    ∙ e))

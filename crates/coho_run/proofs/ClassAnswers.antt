-- An answer to `resolve` or to `ring` is for a group whose classes are cocycles up to coboundaries.
use Rattle.std.proofs.Common.{◌≡◌, ◌⊎◌, List, ℕ, inl, inr, refl, subst, arith}
use Rattle.std.specs.List.{concat}
use Rattle.std.specs.Io.KnownBytes.{Appends}
use Rattle.std.specs.declared.option.Option.{Option}
use Rattle.std.specs.declared.option.Option.TheVariants.{Some}
use Rattle.std.specs.declared.result.Result.TheVariants.{Ok}
use Rattle.coho_io.specs.Content.{Content}
use Rattle.p_groups.specs.PGroups.{PGroup}
use Rattle.power_commutator.specs.Presentations.{Presentation}
use Rattle.bar_eval.proofs.ClassMaps.{is_linear, are_cocycles, is_injective, each_has_one}
use Rattle.coho_run.specs.ClassAnswers.{HasCocycleClasses, HasCocycleClassesOf}
use Rattle.ring_answers.specs.Evaluating.{AreCocycleClasses}
use Rattle.coho_steps.specs.Groups.{IsTableOf}
use Rattle.coho_steps.specs.Loading.{Load}
use Rattle.stage_answers.specs.Answers.{AnswerResolve}
use Rattle.ring_answers.specs.Answers.{AnswerRing}
use Rattle.coho_run.specs.Outcome.{Reply, Comes}
use Rattle.coho_steps.specs.Told.{OfFiles, FromTo}
use Rattle.stage_answers.specs.StageFiles.{FindStages}
use Rattle.coho_steps.specs.Stops.{Meets}
use Rattle.coho_words.specs.Words.{Command, Resolve, Ring, StageFiles, command}
use Rattle.coho_steps.proofs.Lines.{Lines, lines_of}
use Rattle.coho_run.proofs.RingAnswers.{some_is}
use Rattle.coho_run.specs.RingAnswers.{AnswersOver}
use Rattle.coho_run.proofs.RingAnswers as ring
use Rattle.coho_run.proofs.Runs.{Appends_nothing}
use Rattle.coho_run.specs.Outcome.{ending}
use Rattle.coho_steps.specs.declared.status.Status.TheVariants as status

pub classes_are_cocycles : (G : PGroup) (d : ℕ) → AreCocycleClasses G d
classes_are_cocycles G d = record {
  linear = is_linear G d;
  cocycles = are_cocycles G d;
  injective = is_injective G d;
  one_class = each_has_one G d;
}

-- stages that were found and saved are those of a group of the presentation
found_group : (P : Presentation) (n : ℕ) (stages : StageFiles) (x : Unit {0}) (old new : Content)
    → FindStages P n stages old (Ok x) new → (G : PGroup) × IsTableOf P G
found_group P n stages x old new (inl h) = let saved = h.3.1 in (saved.group, saved.is_table)
found_group P n stages x old new (inr h) = absurd (let no = h.2 in cc)

module _ (path : List ℕ) (n : ℕ) (stages : StageFiles) (files : Content) (lines : List (List ℕ)) where
  of_group : (P : Presentation) (left : Content) → Load path files (Ok P) left → (G : PGroup)
      → IsTableOf P G → HasCocycleClasses path n files
  of_group P left load G is = record {
    presentation = P;
    left = left;
    loaded = load;
    classes = record { group = G; is_table = is; holds = λ d to. classes_are_cocycles G d };
  }

  of_stages : (P : Presentation) (left end : Content) → Load path files (Ok P) left
      → AnswerResolve P n left (Ok lines) end → HasCocycleClasses path n files
  of_stages P left end load (inr h) = absurd (let no = h.2 in cc)
  of_stages P left end load (inl h) = of_group P left load h.2.0.group h.2.0.is_table

  of_ring : (P : Presentation) (left end : Content) → Load path files (Ok P) left
      → AnswerRing P n stages left (Ok lines) end → HasCocycleClasses path n files
  of_ring P left end load (inr h) = absurd (let no = h.2 in cc)
  of_ring P left end load (inl h) = let found = found_group P n stages h.0 left h.1 h.2 in
      of_group P left load found.0 found.1

  resolve_reply : (end : Content) → Reply (Resolve path n) files (Ok lines) end
      → HasCocycleClasses path n files
  resolve_reply end (inr h) = absurd (let no = h.2 in cc)
  resolve_reply end (inl h) = of_stages h.0 h.1 end h.2 h.3

  ring_reply : (end : Content) → Reply (Ring path n stages) files (Ok lines) end
      → HasCocycleClasses path n files
  ring_reply end (inr h) = absurd (let no = h.2 in cc)
  ring_reply end (inl h) = of_ring h.0 h.1 end h.2 h.3

  replied : (words : List (List ℕ)) (end : Content) (c : Command) → Comes words files (Ok lines) end
      → command words ≡ Some c → Reply c files (Ok lines) end
  replied words end c (inr h) e = absurd (let no = h.2 in cc)
  replied words end c (inl h) e =
      let is = some_is (command words) c h.0 files h.1 h.2 e in
      subst (λ mid. Reply c mid (Ok lines) end) is.1
      (subst (λ asked. Reply asked h.1 (Ok lines) end) is.0 h.3)

  of_words : (words : List (List ℕ)) (end : Content) → Comes words files (Ok lines) end
      → (command words ≡ Some (Resolve path n)) ⊎ (command words ≡ Some (Ring path n stages))
      → HasCocycleClasses path n files
  of_words words end h (inl e) = resolve_reply end (replied words end (Resolve path n) h e)
  of_words words end h (inr e) = ring_reply end (replied words end (Ring path n stages) h e)

pub has_classes : (words : List (List ℕ)) (known now : Option Content) (lines : Lines)
    → FromTo known now (λ files after. Meets lines_of (Comes words) files after (Ok lines))
    → OfFiles known (HasCocycleClassesOf words)
has_classes words known now lines h = (
  h.0,
  h.2,
  λ path n stages e. of_words path n stages h.0 (lines_of lines) words h.1 h.4 e,
)

-- an answer that was written, over one choice of files
pub answers_over : (words : List (List ℕ)) (known now : Option Content) (lines : Lines)
    (out out_now err : Option (List ℕ)) (k : ℕ)
    → FromTo known now (λ files after. Meets lines_of (Comes words) files after (Ok lines))
    → Appends out out_now (concat (lines_of lines))
    → OfFiles known (AnswersOver words status.Answered known now out out_now err err k k)
answers_over words known now lines out out_now err k h wrote = (
  h.0,
  h.2,
  record {
    ending = ending (Ok (lines_of lines)) h.1;
    outcome = (Ok (lines_of lines), h.1, h.4, refl);
    ends = record {
      same_status = refl;
      same_files = h.3;
      on_out = wrote;
      on_err = (0, Appends_nothing err, λ lt. absurd (omega arith));
    };
    ring = λ path n stages e. ring.of_words path n stages h.0 (lines_of lines) words h.1 h.4 e;
    classes = λ path n stages e. of_words path n stages h.0 (lines_of lines) words h.1 h.4 e;
  },
)

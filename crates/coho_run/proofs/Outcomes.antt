-- Words and files have one outcome, which has the status of the words where they are not those of a
-- command, and
-- else only for those of `value`.
use Rattle.std.proofs.Common.{◌≡◌, ◌∙◌, ◌⊎◌, inl, inr, ℕ, List, refl, sym, ap}
use Rattle.std.specs.Prelude.{⊤}
use Rattle.std.specs.declared.option.Option.{Option}
use Rattle.std.specs.declared.option.Option.TheVariants.{None, Some}
use Rattle.std.specs.declared.result.Result.{Result}
use Rattle.std.specs.declared.result.Result.TheVariants.{Ok, Err}
use Rattle.coho_io.specs.Content.{Content}
use Rattle.power_commutator.specs.Presentations.{Presentation}
use Rattle.coho_run.specs.Outcome.{Ask, Given, Answer, Reply, Comes, Ending, ending, Outcome}
use Rattle.coho_steps.specs.Refusals.{words_refused}
use Rattle.coho_steps.specs.Steps.{Refusal, ◌>>=◌, OrRefuse}
use Rattle.sample_groups.specs.Samples.{sample}
use Rattle.coho_words.specs.Words.{AskForValue, Command, Group, Resolve, Ring, Check, Value, Sample, command}
use Rattle.coho_steps.proofs.Proper.{Ends, IsFunctional, IsProper, loose, then, then_ends, then_one, weaker}
use Rattle.sample_groups.proofs.SampleGroups.{sample_given}
use Rattle.coho_steps.proofs.Loaded.{accept, load, IsLoaded, accepted, loaded}
use Rattle.ring_answers.proofs.OneAnswer.{answer_ring, answer_value, answer_sample}
use Rattle.stage_answers.proofs.OneAnswer.{answer_group, answer_resolve, answer_check}
use Rattle.coho_steps.specs.declared.status.Status.TheVariants as status

-- the presentation that a command is asked about is one
given : (asked : Command) → IsProper ⊥ (Given asked)
given (Group path) = load path
given (Resolve path n) = load path
given (Ring path n files) = load path
given (Check path stages) = load path
given (Value path k es) = load path
given (Sample k) = accept (sample k)

pub given_loaded : (asked : Command) (P : Presentation) (old new : Content) → Given asked old (Ok P) new
    → IsLoaded P
given_loaded (Group path) = loaded path
given_loaded (Resolve path n) = loaded path
given_loaded (Ring path n files) = loaded path
given_loaded (Check path stages) = loaded path
given_loaded (Value path k es) = loaded path
given_loaded (Sample k) = λ P old new. accepted (sample k) P old new (sample_given k)

-- ---- the commands

-- the command may be refused as the words are, and is none whose words are refused
abbrev MayRefuseElements : Command → Type 0
MayRefuseElements (Value path k es) = ⊤
MayRefuseElements _ = ⊥

module _ (P : Presentation) (is : IsLoaded P) where
  answer : (asked : Command) → IsProper (MayRefuseElements asked) (Answer asked P)
  answer (Group path) = answer_group P is
  answer (Resolve path n) = answer_resolve P is n
  answer (Ring path n files) = answer_ring P is n files
  answer (Check path stages) = answer_check P is stages
  answer (Value path k es) = answer_value P is k es
  answer (Sample k) = answer_sample P is k

reply : (asked : Command) → IsProper (MayRefuseElements asked) (Reply asked)
reply asked = then (Given asked) (Answer asked) (weaker (Given asked) (given asked))
    (λ P old mid h. answer P (given_loaded asked P old mid h) asked)

-- ---- so there is one outcome

ask_one : (words : List (List ℕ)) → IsFunctional (Ask words)
ask_one words = functional (command words)
  where
    functional : (o : Option Command) → IsFunctional (OrRefuse words_refused o)
    functional None old new new' end end' h k = (h.0 ∙ sym k.0, h.1 ∙ sym k.1)
    functional (Some c) old new new' end end' h k = (h.0 ∙ sym k.0, h.1 ∙ sym k.1)

ask_ends : (words : List (List ℕ)) (old : Content) → Ends (Ask words) old
ask_ends words old = ends (command words)
  where
    ends : (o : Option Command) → Ends (OrRefuse words_refused o) old
    ends None = (Err words_refused, old, (refl, refl))
    ends (Some c) = (Ok c, old, (refl, refl))

pub outcome_unique : (words : List (List ℕ)) (files : Content) (e d : Ending) → Outcome words files e
    → Outcome words files d → e ≡ d
outcome_unique words files e d h k =
    let same = then_one (Ask words) Reply (ask_one words)
    (λ asked old mid h. loose (Reply asked) (reply asked)) files h.1 k.1 h.0 k.0 h.2 k.2 in
    h.3 ∙ ap (λ r. ending r h.1) same.0 ∙ ap (ending k.0) same.1 ∙ sym k.3

pub outcome_exists : (words : List (List ℕ)) (files : Content) → (e : Ending) × Outcome words files e
outcome_exists words files =
    let c = then_ends (Ask words) Reply files (ask_ends words files)
    (λ asked old mid h. loose (Reply asked) (reply asked)) in
    (ending c.0 c.1, (c.0, c.1, c.2, refl))

-- ---- refused by the words where they are not those of a command, and else only for those of `value`

refused_none : (o : Option Command) (r : Refusal) (old new : Content)
    → OrRefuse words_refused o old (Err r) new → o ≡ None
refused_none None r old new h = refl
refused_none (Some x) r old new h = let no = h.0 in absurd (cc)

given_is : (o : Option Command) (c : Command) (old new : Content) → OrRefuse words_refused o old (Ok c) new
    → o ≡ Some c
given_is None c old new h = absurd (let no = h.0 in cc)
given_is (Some x) c old new h = let e = h.0 in cc

value_asked : (words : List (List ℕ)) (c : Command) → command words ≡ Some c → MayRefuseElements c
    → AskForValue words
value_asked words (Group path) e h = absurd h
value_asked words (Resolve path n) e h = absurd h
value_asked words (Ring path n files) e h = absurd h
value_asked words (Check path stages) e h = absurd h
value_asked words (Value path k es) e h = (path, k, es, e)
value_asked words (Sample k) e h = absurd h

pub usage_is : (words : List (List ℕ)) (old new : Content) (r : Refusal) → Comes words old (Err r) new
    → r.status ≡ status.Usage → (command words ≡ None) ⊎ AskForValue words
usage_is words old new r (inl h) e =
    inr (value_asked words h.0 (given_is (command words) h.0 old h.1 h.2)
    ((reply h.0).keeps h.1 new r h.3 e))
usage_is words old new r (inr h) e = inl (refused_none (command words) h.0 old new h.1)

ask_none : (o : Option Command) (old new : Content) (end : Result (List (List ℕ)) Refusal)
    → (OrRefuse words_refused o >>= Reply) old end new → o ≡ None → end ≡ Err words_refused
ask_none None old new end (inl h) e = let no = h.2.0 in absurd (cc)
ask_none None old new end (inr h) e = let same : h.0 ≡ words_refused = let no = h.1.0 in cc in h.2
    ∙ ap (λ r. Err r) same
ask_none (Some x) old new end h e = absurd (let no : ◌≡◌ {A = Option Command} (Some x) None = e in cc)

pub none_comes : (words : List (List ℕ)) (old new : Content) (end : Result (List (List ℕ)) Refusal)
    → Comes words old end new → command words ≡ None → end ≡ Err words_refused
none_comes words old new end h e = ask_none (command words) old new end h e

-- With a stage file of which nothing is refused the outcome is that without it.
use Rattle.std.proofs.Common.{◌≡◌, ◌∙◌, inl, inr, ℕ, ◌≤◌, List, take, refl, sym, ap, subst}
use Rattle.std.specs.Prelude.{MatchOption}
use Rattle.std.specs.declared.option.Option.{Option}
use Rattle.std.specs.declared.option.Option.TheVariants.{None, Some}
use Rattle.std.specs.declared.result.Result.{Result}
use Rattle.std.specs.declared.result.Result.TheVariants.{Ok, Err}
use Rattle.limits.specs.declared.TheConstants.{GREATEST_DEGREE}
use Rattle.coho_io.specs.Content.{Content}
use Rattle.p_groups.specs.PGroups.{PGroup}
use Rattle.pc_text.specs.Canonical.{canonical}
use Rattle.power_commutator.specs.Presentations.{Presentation}
use Rattle.stage_records.specs.Walks.{Walked, WalkFault}
use Rattle.stage_file.specs.Honest.{file_of, walk_of}
use Rattle.stage_file.proofs.Honest.{front}
use Rattle.coho_run.specs.HonestFiles.{AreWordsWithout, IsAccepted, IsAcceptedFile, IsHonestFile}
use Rattle.ring_answers.specs.Answers.{AnswerRing}
use Rattle.coho_run.specs.Outcome.{Comes, Ending, Outcome, Reply}
use Rattle.coho_steps.specs.Loading.{Load}
use Rattle.coho_steps.specs.Refusals.{file_refused, words_refused}
use Rattle.stage_answers.specs.StageFiles.{FindStages, OrMissing, SaveStages, TakeStages, Walk}
use Rattle.coho_steps.specs.Steps.{OrRefuse, Refusal}
use Rattle.coho_words.specs.Words.{Command, Ring, StageFiles, command}
use Rattle.coho_steps.proofs.OneTable.{one_table}
use Rattle.coho_steps.proofs.Loaded.{load}
use Rattle.coho_run.proofs.Outcomes.{outcome_unique}
use Rattle.coho_run.proofs.RingAnswers.{some_is}
use Rattle.coho_run.proofs.Twice.{load_same}
use Rattle.coho_words.proofs.FromWords.{without_from}

pub honest_accepted : (P : Presentation) (n : ℕ) (bytes : List ℕ) → n ≤ GREATEST_DEGREE → IsHonestFile P bytes
    → IsAccepted P n bytes
honest_accepted P n bytes l H G is =
    let same = one_table P H.group G H.is_table is in
    let e : bytes ≡ take H.holds.0 (file_of G (canonical P) GREATEST_DEGREE)
    = H.holds.1 ∙ ap (λ (X : PGroup). take H.holds.0 (file_of X (canonical P) GREATEST_DEGREE)) same in
    ap (λ (b : List ℕ). (walk_of G (canonical P) n b).fault) e
    ∙ ap (λ (w : Walked). w.fault) (front G (canonical P) n H.holds.0 l)

no_fault : (o : Option WalkFault) (q : Refusal) → o ≡ None
    → MatchOption o ⊥ (λ fault. q ≡ file_refused fault) → ⊥
no_fault None q e h = h
no_fault (Some fault) q e h = let no : ◌≡◌ {A = Option WalkFault} (Some fault) None = e in absurd (cc)

module _ (path : List ℕ) (n : ℕ) (from : List ℕ) (save : Option (List ℕ)) (files : Content)
    (F : IsAcceptedFile path n from files) where
  abbrev with_it : StageFiles
  with_it = record { from = Some from; save = save }

  abbrev without : StageFiles
  without = record { from = None; save = save }

  module _ (P : Presentation) (loaded : Load path files (Ok P) files) where
    walked : (end : Result ℕ Refusal) (mid : Content) → TakeStages P n (Some from) files end mid
        → Walk P n F.bytes files end mid
    walked end mid h = subst (λ (o : Option (List ℕ)). OrMissing from o (Walk P n) files end mid) F.there h

    found : (end : Result (Unit {0}) Refusal) (new : Content) → FindStages P n with_it files end new
        → FindStages P n without files end new
    found end new (inl h) =
        let w : Walk P n F.bytes files (Ok h.0) h.1 = walked (Ok h.0) h.1 h.2 in
        inl (0, files, (refl, refl), subst (λ (mid : Content). SaveStages P n save mid end new) w.1 h.3)
    found end new (inr h) =
        let w : Walk P n F.bytes files (Err h.0) new = walked (Err h.0) new h.1 in
        absurd (no_fault (walk_of w.0.group (canonical P) n F.bytes).fault h.0
        (F.accepted P files loaded w.0.group w.0.is_table) w.0.holds)

    answered : (end : Result (List (List ℕ)) Refusal) (new : Content) → AnswerRing P n with_it files end new
        → AnswerRing P n without files end new
    answered end new (inl h) = inl (h.0, h.1, found (Ok h.0) h.1 h.2, h.3)
    answered end new (inr h) = inr (h.0, found (Err h.0) new h.1, h.2)

  replied : (end : Result (List (List ℕ)) Refusal) (new : Content) → Reply (Ring path n with_it) files end new
      → Reply (Ring path n without) files end new
  replied end new (inl h) =
      let here : Load path files (Ok h.0) files = load_same path h.0 files h.1 files refl h.2 in
      let stays : h.1 ≡ files = ((load path).one files h.1 files (Ok h.0) (Ok h.0) h.2 here).1 in
      inl (
        h.0,
        files,
        here,
        answered h.0 here end new (subst (λ (mid : Content). AnswerRing h.0 n with_it mid end new) stays h.3),
      )
  replied end new (inr h) = inr (h.0, h.1, h.2)

  come : (words fewer : List (List ℕ)) → command words ≡ Some (Ring path n with_it)
      → command fewer ≡ Some (Ring path n without) → (end : Result (List (List ℕ)) Refusal) (new : Content)
      → Comes words files end new → Comes fewer files end new
  come words fewer e f end new (inl h) =
      let is = some_is (command words) (Ring path n with_it) h.0 files h.1 h.2 e in
      inl (
        Ring path n without,
        files,
        subst (λ (o : Option Command). OrRefuse words_refused o files (Ok (Ring path n without)) files)
            (sym f)
            (refl, refl),
        replied end new (subst (λ (mid : Content). Reply (Ring path n with_it) mid end new) is.1
            (subst (λ (asked : Command). Reply asked h.1 end new) is.0 h.3)),
      )
  come words fewer e f end new (inr h) =
      absurd (asked (command words) h.0 new h.1 e)
    where
      asked : (o : Option Command) (r : Refusal) (new : Content) → OrRefuse words_refused o files (Err r) new
          → o ≡ Some (Ring path n with_it) → ⊥
      asked None r new h e = let no : ◌≡◌ {A = Option Command} None (Some (Ring path n with_it)) =
          e in absurd (cc)
      asked (Some c) r new h e = let no = h.0 in absurd (cc)

-- the file and the degree of a command for a ring
abbrev path_in : List ℕ → Command → List ℕ
path_in other (Ring path n stages) = path
path_in other _ = other

abbrev degree_in : ℕ → Command → ℕ
degree_in other (Ring path n stages) = n
degree_in other _ = other

pub without_it : (words fewer : List (List ℕ)) (path : List ℕ) (n : ℕ) (from : List ℕ) (files : Content)
    → AreWordsWithout words fewer path n from → IsAcceptedFile path n from files
    → (e d : Ending) → Outcome words files e → Outcome fewer files d → e ≡ d
without_it words fewer path n from files W F e d h k =
    let asked = sym (ap command W.words_are) ∙ W.asked in
    let alike = without_from W.before W.after from (Ring path n W.stages) asked in
    let save = alike.2 in
    let same_path : path ≡ alike.0 = ap (path_in path) alike.3 in
    let same_degree : n ≡ alike.1 = ap (degree_in n) alike.3 in
    let ring_is : (f : Option (List ℕ)) → Ring path n (record { from = f; save = save })
    ≡ Ring alike.0 alike.1 (record { from = f; save = save })
    = λ f. λ i. Ring (same_path i) (same_degree i) (record { from = f; save = save }) in
    let with_file : command words ≡ Some (Ring path n (record { from = Some from; save = save }))
    = W.asked ∙ ap (λ (c : Command). Some c) (alike.3 ∙ sym (ring_is (Some from))) in
    let without : command fewer ≡ Some (Ring path n (record { from = None; save = save }))
    = ap command W.fewer_are ∙ alike.4 ∙ ap (λ (c : Command). Some c) (sym (ring_is None)) in
    outcome_unique fewer files e d
    (h.0, h.1, come path n from save files F words fewer with_file without h.0 h.1 h.2, h.3) k

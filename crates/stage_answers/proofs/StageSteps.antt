-- The steps that read one stage file and save another end in one way.
use Rattle.std.proofs.Common.{◌≡◌, ◌∙◌, ◌⊎◌, inl, inr, ℕ, List, refl, sym, ap, subst}
use Rattle.std.specs.Prelude.{MatchOption}
use Rattle.std.specs.declared.option.Option.{Option}
use Rattle.std.specs.declared.option.Option.TheVariants.{None, Some}
use Rattle.std.specs.declared.result.Result.{Result}
use Rattle.std.specs.declared.result.Result.TheVariants.{Ok, Err}
use Rattle.coho_io.specs.Content.{Content, file}
use Rattle.p_groups.specs.PGroups.{PGroup}
use Rattle.pc_text.specs.Canonical.{canonical}
use Rattle.power_commutator.specs.Presentations.{Presentation}
use Rattle.stage_records.specs.Walks.{Walked, WalkFault}
use Rattle.stage_file.specs.Honest.{file_of, walk_of}
use Rattle.stage_walk.specs.Saved.{saved}
use Rattle.coho_steps.specs.Groups.{IsTableOf}
use Rattle.coho_steps.specs.Refusals.{file_refused, read_refused}
use Rattle.stage_answers.specs.StageFiles.{FindStages, FitStages, IsSaved, IsWalkRefusal, OrMissing}
use Rattle.stage_answers.specs.StageFiles.{SaveStages, TakeStages, Takes, Walk, WalkFile}
use Rattle.coho_steps.specs.Steps.{Refusal}
use Rattle.coho_words.specs.Words.{StageFiles}
use Rattle.stage_answers.proofs.OneResolution.{fit_decided}
use Rattle.coho_steps.proofs.OneTable.{one_table}
use Rattle.coho_steps.proofs.Proper.{IsDecided, IsProper, gives, on_group, refuses, then}
use Rattle.coho_steps.specs.declared.status.Status.TheVariants as status

-- ---- a walk takes so many records, or is refused

abbrev Fault : Type 0
Fault = Option WalkFault

abbrev IsRefusalOf : Fault → Refusal → Type 0
IsRefusalOf o q = MatchOption o ⊥ (λ fault. q ≡ file_refused fault)

one_refusal_of : (o : Fault) (q r : Refusal) → IsRefusalOf o q → IsRefusalOf o r → q ≡ r
one_refusal_of None q r a b = absurd a
one_refusal_of (Some fault) q r a b = a ∙ sym b

no_words : (o : Fault) (q : Refusal) → IsRefusalOf o q → q.status ≡ status.Usage → ⊥
no_words None q a e = a
no_words (Some fault) q a e = let no = sym (ap (λ (q : Refusal). q.status) a) ∙ e in cc

taken_so : (w : Walked) (k : ℕ) (q : Refusal) → Takes w k → IsWalkRefusal w q → ⊥
taken_so w k q a b = subst (λ (o : Fault). IsRefusalOf o q) (ap (λ (w : Walked). w.fault) a) b

some_end : (w : Walked) → ((k : ℕ) × Takes w k) ⊎ ((q : Refusal) × IsWalkRefusal w q)
some_end w = go w.fault refl
  where
    go : (o : Fault) → w.fault ≡ o → ((k : ℕ) × Takes w k) ⊎ ((q : Refusal) × IsWalkRefusal w q)
    go None e = inl (w.taken, ap (λ (o : Fault). record { taken = w.taken; fault = o }) e)
    go (Some fault) e = inr (
      file_refused fault,
      subst (λ (o : Fault). IsRefusalOf o (file_refused fault))
          (sym e) refl,
    )

walk_decided : (text : List ℕ) (c : ℕ) (bytes : List ℕ)
    → IsDecided ⊥ (λ G (k : ℕ). Takes (walk_of G text c bytes) k)
    (λ G (q : Refusal). IsWalkRefusal (walk_of G text c bytes) q)
walk_decided text c bytes = record {
  one_value = λ G x y a b. ap (λ (w : Walked). w.taken) (sym a ∙ b);
  one_refusal = λ G q r a b. one_refusal_of (walk_of G text c bytes).fault q r a b;
  not_both = λ G x q a b. taken_so (walk_of G text c bytes) x q a b;
  some = λ G. some_end (walk_of G text c bytes);
  keeps = λ G q a e. no_words (walk_of G text c bytes).fault q a e;
}

stays : (P : Presentation) (n : ℕ) (end : Result (Unit {0}) Refusal) (old new : Content)
    → FitStages P n old end new → new ≡ old
stays P n (Ok x) old new h = h.1
stays P n (Err q) old new h = h.1

-- ---- so do the steps

module _ (P : Presentation) (G : PGroup) (is : IsTableOf P G) where
  or_missing : (c : ℕ) (path : List ℕ) (o : Option (List ℕ)) → IsProper ⊥ (OrMissing path o (Walk P c))
  or_missing c path None = refuses (read_refused path) (λ e. cc)
  or_missing c path (Some bytes) = on_group P G is _ _ (walk_decided (canonical P) c bytes)

  pub walk_file : (c : ℕ) (path : List ℕ) → IsProper ⊥ (WalkFile P c path)
  walk_file c path = record {
    one = λ old. (or_missing c path (file old path)).one old;
    keeps = λ old. (or_missing c path (file old path)).keeps old;
    ends = λ old. (or_missing c path (file old path)).ends old;
  }

  take_stages : (n : ℕ) (from : Option (List ℕ)) → IsProper ⊥ (TakeStages P n from)
  take_stages n None = gives 0
  take_stages n (Some path) = walk_file n path

  fit_stages : (n : ℕ) → IsProper ⊥ (FitStages P n)
  fit_stages n = on_group P G is _ _ (fit_decided n)

  one_saved : (n : ℕ) (save : Option (List ℕ)) (old new new' : Content) → IsSaved P n save old new
      → IsSaved P n save old new' → new ≡ new'
  one_saved n save old new new' a b =
      a.holds ∙ ap (λ (H : PGroup). saved save (file_of H (canonical P) n) old)
      (one_table P a.group b.group a.is_table b.is_table) ∙ sym b.holds

  save_stages : (n : ℕ) (save : Option (List ℕ)) → IsProper ⊥ (SaveStages P n save)
  save_stages n save = record {
    one = λ old new new' end end' h k. (
      ((fit_stages n).one old old old end end' h.0 k.0).0,
      one_saved n save old new new' h.1 k.1,
    );
    keeps = λ old new r h e. (fit_stages n).keeps old old r h.0 e;
    ends = λ old. (let e = (fit_stages n).ends old in (
      e.0,
      saved save (file_of G (canonical P) n) old,
      (
        subst (λ (new : Content). FitStages P n old e.0 new) (stays P n e.0 old e.1 e.2) e.2,
        record { group = G; is_table = is; holds = refl },
      ),
    ));
  }

  pub find_stages : (n : ℕ) (files : StageFiles) → IsProper ⊥ (FindStages P n files)
  find_stages n files = then (TakeStages P n files.from) (λ _. SaveStages P n files.save)
      (take_stages n files.from) (λ _ old mid h. save_stages n files.save)

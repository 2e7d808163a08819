-- Steps that end from all files, in one way, and are never refused as the words are.
use Rattle.std.proofs.Common.{◌≡◌, ◌≢◌, ◌∙◌, ◌⊎◌, inl, inr, Bool, true, false, refl, sym, ap, subst}
use Rattle.std.specs.Prelude.{⊤}
use Rattle.std.specs.declared.option.Option.{Option}
use Rattle.std.specs.declared.option.Option.TheVariants.{None, Some}
use Rattle.std.specs.declared.result.Result.{Result}
use Rattle.std.specs.declared.result.Result.TheVariants.{Ok, Err}
use Rattle.coho_io.specs.Content.{Content}
use Rattle.p_groups.specs.PGroups.{PGroup}
use Rattle.power_commutator.specs.Presentations.{Presentation}
use Rattle.coho_steps.specs.Groups.{ForGroupOf, IsTableOf}
use Rattle.coho_steps.specs.Steps.{Refusal, Step, ◌>>=◌, Gives, Refuses, OrRefuse, RefuseIf, OnGroup}
use Rattle.coho_steps.proofs.OneTable.{one_table}
use Rattle.coho_steps.specs.declared.status.Status.TheVariants as status

-- no two ends of a step from the same files
abbrev pub IsFunctional : {A : Type 0} → Step A → Type 0
IsFunctional {A} step = (old new new' : Content) (end end' : Result A Refusal) → step old end new
    → step old end' new' → (end ≡ end') × (new ≡ new')

-- a refusal of the step has the status of the words only where U holds
abbrev pub KeepsWords : {A : Type 0} → Type 0 → Step A → Type 0
KeepsWords {A} U step = (old new : Content) (r : Refusal) → step old (Err r) new → r.status ≡ status.Usage → U

-- the step from these files ends
abbrev pub Ends : {A : Type 0} → Step A → Content → Type 0
Ends {A} step old = (end : Result A Refusal) × (new : Content) × step old end new

pub record IsProper {A : Type 0} (U : Type 0) (step : Step A) : Type 0 where
  pub one : IsFunctional step
  pub keeps : KeepsWords U step
  pub ends : (old : Content) → Ends step old

-- what is never refused as the words are
pub weaker : {A U : Type 0} (step : Step A) → IsProper ⊥ step → IsProper U step
weaker step h = record {
  one = h.one;
  keeps = λ old new r is e. absurd (h.keeps old new r is e);
  ends = h.ends;
}

-- what may be refused as the words are
pub loose : {A U : Type 0} (step : Step A) → IsProper U step → IsProper ⊤ step
loose step h = record { one = h.one; keeps = λ old new r is e. tt; ends = h.ends }

pub gives : {A U : Type 0} (x : A) → IsProper U (Gives x)
gives {A} {U} x = record {
  one = λ old new new' end end' h k. (h.0 ∙ sym k.0, h.1 ∙ sym k.1);
  keeps = λ old new r h e. (let no : ◌≡◌ {A = Result A Refusal} (Err r) (Ok x) = h.0 in absurd (cc));
  ends = λ old. (Ok x, old, (refl, refl));
}

same_err : {A : Type 0} (q r : Refusal) → ◌≡◌ {A = Result A Refusal} (Err q) (Err r) → q ≡ r
same_err q r e = cc

same_ok : {A : Type 0} (x y : A) → ◌≡◌ {A = Result A Refusal} (Ok x) (Ok y) → x ≡ y
same_ok x y e = cc

pub refuses : {A U : Type 0} (q : Refusal) → (q.status ≡ status.Usage → U) → IsProper {A = A} U (Refuses q)
refuses {A} {U} q other = record {
  one = λ old new new' end end' h k. (h.0 ∙ sym k.0, h.1 ∙ sym k.1);
  keeps = λ old new r h e. other (subst (λ r. r.status ≡ status.Usage) (same_err {A = A} r q h.0) e);
  ends = λ old. (Err q, old, (refl, refl));
}

pub or_refuse : {A : Type 0} (q : Refusal) (o : Option A) → q.status ≢ status.Usage
    → IsProper ⊥ (OrRefuse q o)
or_refuse q None other = refuses q other
or_refuse q (Some x) other = gives x

pub refuse_if : (b : Bool) (q : Refusal) → q.status ≢ status.Usage → IsProper ⊥ (RefuseIf b q)
refuse_if true q other = refuses q other
refuse_if false q other = gives tt

-- ---- one step after another

module _ {A B : Type 0} (first : Step A) (next : A → Step B) where
  abbrev pub Follows : Type 0 → Type 0
  Follows U = (x : A) (old mid : Content) → first old (Ok x) mid → IsProper U (next x)

  pub then_one : {U : Type 0} → IsFunctional first → Follows U → IsFunctional (first >>= next)
  then_one f n old new new' end end' (inl h) (inl k) =
      let e = f old h.1 k.1 (Ok h.0) (Ok k.0) h.2 k.2 in
      (n k.0 old k.1 k.2).one k.1 new new' end end'
      (subst (λ x. next x k.1 end new) (same_ok h.0 k.0 e.0)
      (subst (λ m. next h.0 m end new) e.1 h.3)) k.3
  then_one f n old new new' end end' (inl h) (inr k) =
      let e : Ok h.0 ≡ Err k.0 = (f old h.1 new' (Ok h.0) (Err k.0) h.2 k.1).0 in absurd (cc)
  then_one f n old new new' end end' (inr h) (inl k) =
      let e : Err h.0 ≡ Ok k.0 = (f old new k.1 (Err h.0) (Ok k.0) h.1 k.2).0 in absurd (cc)
  then_one f n old new new' end end' (inr h) (inr k) =
      let e = f old new new' (Err h.0) (Err k.0) h.1 k.1 in
      (h.2 ∙ ap (λ r. Err r) (same_err {A = A} h.0 k.0 e.0) ∙ sym k.2, e.1)

  then_keeps : {U : Type 0} → KeepsWords U first → Follows U → KeepsWords U (first >>= next)
  then_keeps f n old new r (inl h) = (n h.0 old h.1 h.2).keeps h.1 new r h.3
  then_keeps f n old new r (inr h) = f old new r
      (subst (λ q. first old (Err q) new) (sym (same_err {A = B} r h.0 h.2)) h.1)

  pub then_ends : {U : Type 0} (old : Content) → Ends first old → Follows U → Ends (first >>= next) old
  then_ends old f n = go f.0 f.1 f.2
    where
      go : (end : Result A Refusal) (mid : Content) → first old end mid → Ends (first >>= next) old
      go (Ok x) mid h = let e = (n x old mid h).ends mid in (e.0, e.1, inl (x, mid, h, e.2))
      go (Err q) mid h = (Err q, mid, inr (q, h, refl))

  pub then : {U : Type 0} → IsProper U first → Follows U → IsProper U (first >>= next)
  then f n = record {
    one = then_one f.one n;
    keeps = then_keeps f.keeps n;
    ends = λ old. then_ends old (f.ends old) n;
  }

-- ---- a step on the group of a presentation

-- for each group there is one value or one refusal, which has the status of the words only where U holds
pub record IsDecided {A : Type 0} (U : Type 0) (Value : PGroup → A → Type 0) (Refused : PGroup → Refusal
    → Type 0) : Type 0 where
  pub one_value : (G : PGroup) (x y : A) → Value G x → Value G y → x ≡ y
  pub one_refusal : (G : PGroup) (q r : Refusal) → Refused G q → Refused G r → q ≡ r
  pub not_both : (G : PGroup) (x : A) (q : Refusal) → Value G x → Refused G q → ⊥
  pub some : (G : PGroup) → ((x : A) × Value G x) ⊎ ((q : Refusal) × Refused G q)
  pub keeps : (G : PGroup) (q : Refusal) → Refused G q → q.status ≡ status.Usage → U

module _ {A U : Type 0} (P : Presentation) (G : PGroup) (is : IsTableOf P G) (Value : PGroup → A
    → Type 0) (Refused : PGroup → Refusal → Type 0) (D : IsDecided U Value Refused) where
  moved : (Holds : PGroup → Type 0) → ForGroupOf P Holds → Holds G
  moved Holds h = subst Holds (one_table P h.group G h.is_table is) h.holds

  on_one : IsFunctional (OnGroup P Value Refused)
  on_one old new new' (Ok x) (Ok y) h k = (
    ap (λ x. Ok x) (D.one_value G x y (moved (λ G. Value G x) h.0) (moved (λ G. Value G y) k.0)),
    h.1
        ∙ sym k.1,
  )
  on_one old new new' (Ok x) (Err q) h k =
      absurd (D.not_both G x q (moved (λ G. Value G x) h.0) (moved (λ G. Refused G q) k.0))
  on_one old new new' (Err q) (Ok y) h k =
      absurd (D.not_both G y q (moved (λ G. Value G y) k.0) (moved (λ G. Refused G q) h.0))
  on_one old new new' (Err q) (Err r) h k = (
    ap (λ q. Err q) (D.one_refusal G q r (moved (λ G. Refused G q) h.0) (moved (λ G. Refused G r) k.0)),
    h.1 ∙ sym k.1,
  )

  on_ends : (old : Content) → Ends (OnGroup P Value Refused) old
  on_ends old = go (D.some G)
    where
      go : ((x : A) × Value G x) ⊎ ((q : Refusal) × Refused G q) → Ends (OnGroup P Value Refused) old
      go (inl v) = (Ok v.0, old, (record { group = G; is_table = is; holds = v.1 }, refl))
      go (inr r) = (Err r.0, old, (record { group = G; is_table = is; holds = r.1 }, refl))

  pub on_group : IsProper U (OnGroup P Value Refused)
  on_group = record {
    one = on_one;
    keeps = λ old new r h. D.keeps G r (moved (λ G. Refused G r) h.0);
    ends = on_ends;
  }

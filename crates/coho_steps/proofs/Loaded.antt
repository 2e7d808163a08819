-- The steps to a consistent presentation end in one way, and such a presentation has a group.
use Rattle.std.proofs.Common.{◌≡◌, inl, inr, ℕ, ◌+◌, List, take, refl, ap, subst}
use Rattle.std.specs.declared.option.Option.{Option}
use Rattle.std.specs.declared.option.Option.TheVariants.{None, Some}
use Rattle.std.specs.declared.result.Result.{Result}
use Rattle.std.specs.declared.result.Result.TheVariants.{Ok, Err}
use Rattle.std.specs.Option.{option_map}
use Rattle.limits.specs.declared.TheConstants.{LONGEST_TEXT}
use Rattle.coho_io.specs.Content.{Content, file}
use Rattle.p_groups.specs.PGroups.{PGroup}
use Rattle.pc_text.specs.Faults.{Fault}
use Rattle.pc_text.specs.Texts.{read}
use Rattle.pc_text.proofs.Valid.{IsGiven, above_one, prime_listed, read_given}
use Rattle.power_commutator.specs.declared.TestName.{TestName}
use Rattle.power_commutator.specs.Presentations.{Presentation, first_fault}
use Rattle.coho_steps.specs.Groups.{IsTableOf}
use Rattle.coho_steps.specs.Loading.{ReadFront, ReadText, FitLength, OrFault, FitOrder, UnlessFalse, Accept}
use Rattle.coho_steps.specs.Loading.{Load}
use Rattle.coho_steps.specs.Refusals.{read_refused}
use Rattle.coho_steps.specs.Steps.{Refusal, OrRefuse, OnGroup}
use Rattle.coho_steps.proofs.Loads.{after_length, after_order, after_text}
use Rattle.coho_steps.proofs.Proper.{IsDecided, IsProper, gives, on_group, or_refuse, refuse_if, refuses}
use Rattle.coho_steps.proofs.Proper.{then}
use Rattle.coho_steps.proofs.TableExists.{table_exists}

or_fault : (r : Result Presentation Fault) → IsProper ⊥ (OrFault r)
or_fault (Ok P) = gives P
or_fault (Err fault) = refuses _ (λ e. cc)

unless_false : (P : Presentation) (o : Option TestName) → IsProper ⊥ (UnlessFalse P o)
unless_false P None = gives P
unless_false P (Some name) = refuses _ (λ e. cc)

read_text : (text : List ℕ) → IsProper ⊥ (ReadText text)
read_text text = then (FitLength text) (after_length text) (refuse_if _ _ (λ e. cc))
    (λ _ old mid h. or_fault (read text))

pub accept : (P : Presentation) → IsProper ⊥ (Accept P)
accept P = then (FitOrder P) (after_order P) (refuse_if _ _ (λ e. cc))
    (λ _ old mid h. unless_false P (first_fault P))

read_front : (path : List ℕ) → IsProper ⊥ (ReadFront path)
read_front path = record {
  one = λ old. (at old).one old;
  keeps = λ old. (at old).keeps old;
  ends = λ old. (at old).ends old;
}
  where
    at : (old : Content) → IsProper ⊥ (OrRefuse (read_refused path)
        (option_map (take (LONGEST_TEXT + 1)) (file old path)))
    at old = or_refuse _ _ (λ e. cc)

pub load : (path : List ℕ) → IsProper ⊥ (Load path)
load path = then (ReadFront path) after_text (read_front path)
    (λ text old mid h. then (ReadText text) Accept (read_text text) (λ P old mid h. accept P))

pub record IsLoaded (P : Presentation) : Type 0 where
  pub given : IsGiven P
  pub consistent : first_fault P ≡ None

read_is : (r : Result Presentation Fault) (P : Presentation) (old new : Content) → OrFault r old (Ok P) new
    → r ≡ Ok P
read_is (Ok Q) P old new h = let e : Q ≡ P = let d = h.0 in cc in ap (λ P. Ok P) e
read_is (Err fault) P old new h = absurd (let no = h.0 in cc)

pub text_is : (text : List ℕ) (P : Presentation) (old new : Content) → ReadText text old (Ok P) new
    → read text ≡ Ok P
text_is text P old new (inl h) = read_is (read text) P h.1 new h.3
text_is text P old new (inr h) = absurd (let no = h.2 in cc)

none_is : (P Q : Presentation) (o : Option TestName) (old new : Content) → UnlessFalse P o old (Ok Q) new
    → (o ≡ None) × (P ≡ Q)
none_is P Q None old new h = (refl, (let e = h.0 in cc))
none_is P Q (Some name) old new h = absurd (let no = h.0 in cc)

pub accepted : (P Q : Presentation) (old new : Content) → IsGiven P → Accept P old (Ok Q) new → IsLoaded Q
accepted P Q old new is (inl h) =
    let e = none_is P Q (first_fault P) h.1 new h.3 in
    subst IsLoaded e.1 (record { given = is; consistent = e.0 })
accepted P Q old new is (inr h) = absurd (let no = h.2 in cc)

after_is : (text : List ℕ) (Q : Presentation) (old new : Content) → after_text text old (Ok Q) new
    → IsLoaded Q
after_is text Q old new (inl h) =
    accepted h.0 Q h.1 new (read_given text h.0 (text_is text h.0 old h.1 h.2)) h.3
after_is text Q old new (inr h) = absurd (let no = h.2 in cc)

pub loaded : (path : List ℕ) (Q : Presentation) (old new : Content) → Load path old (Ok Q) new → IsLoaded Q
loaded path Q old new (inl h) = after_is h.0 Q h.1 new h.3
loaded path Q old new (inr h) = absurd (let no = h.2 in cc)

pub table_of : (P : Presentation) → IsLoaded P → (G : PGroup) × IsTableOf P G
table_of P is = let four = prime_listed P.prime is.given.prime in
    table_exists P four (above_one P.prime four) is.given.valid is.consistent

-- a step on the group of such a presentation
pub on : {A U : Type 0} (P : Presentation) → IsLoaded P → (Found : PGroup → A → Type 0)
    (Refused : PGroup → Refusal → Type 0) → IsDecided U Found Refused → IsProper U (OnGroup P Found Refused)
on P is Found Refused D = let t = table_of P is in on_group P t.0 t.1 Found Refused D

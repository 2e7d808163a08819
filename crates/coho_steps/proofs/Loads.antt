-- The steps to a consistent presentation, as the calls make them.
use Rattle.std.proofs.Common.{◌≡◌, ◌+◌, ◌≤◌, List, ℕ, length, Vec, Global, Some}
use Rattle.std.specs.declared.option.Option.{Option}
use Rattle.std.specs.declared.result.Result.{Result}
use Rattle.std.specs.declared.result.Result.TheVariants.{Ok, Err}
use Rattle.limits.specs.declared.TheConstants.{LONGEST_TEXT}
use Rattle.coho_io.specs.Content.{Content}
use Rattle.power_commutator.specs.Presentations.{Presentation}
use Rattle.coho_steps.specs.declared.stop.Stop.{Stop}
use Rattle.coho_steps.specs.Steps.{Step, ◌>>=◌}
use Rattle.coho_steps.specs.Loading.{ReadFront, FitLength, Present, ReadText, FitOrder, Test, Accept, Load}
use Rattle.coho_steps.specs.Stops.{Meets, Settles, IsReadStop}
use Rattle.coho_steps.specs.Told.{OfFiles}
use Rattle.coho_steps.proofs.Chain.{after_ok, at_stop, settled_after_ok, settled_at_stop, settled_meets}
use Rattle.coho_steps.proofs.Fronts.{fault_meets}
use Rattle.coho_steps.proofs.Seen.{some_files, read_of_some_files}

abbrev pub unit : Unit {0} → Unit {0}
unit _ = tt

abbrev pub itself : Presentation → Presentation
itself P = P

abbrev pub after_length : List ℕ → Unit {0} → Step Presentation
after_length text _ = Present text

abbrev pub after_order : Presentation → Unit {0} → Step Presentation
after_order P _ = Test P

abbrev pub after_text : List ℕ → Step Presentation
after_text text = ReadText text >>= Accept

pub length_then : (text : List ℕ) (r : Result Presentation Stop) → Settles unit (FitLength text) (Ok tt)
    → Settles itself (Present text) r → Settles itself (ReadText text) r
length_then text r h k = settled_after_ok unit itself (FitLength text) (after_length text) tt r h k

pub order_then : (P : Presentation) (r : Result Presentation Stop) → Settles unit (FitOrder P) (Ok tt)
    → Settles itself (Test P) r → Settles itself (Accept P) r
order_then P r h k = settled_after_ok unit itself (FitOrder P) (after_order P) tt r h k

pub text_then : (text : List ℕ) (P : Presentation) (r : Result Presentation Stop)
    → Settles itself (ReadText text) (Ok P) → Settles itself (Accept P) r → Settles itself (after_text text) r
text_then text P r h k = settled_after_ok itself itself (ReadText text) Accept P r h k

pub text_stop : (text : List ℕ) (s : Stop) → Settles itself (ReadText text) (Err s)
    → Settles itself (after_text text) (Err s)
text_stop text s h = settled_at_stop itself itself (ReadText text) Accept s h

abbrev items : Vec ℕ Global → List ℕ
items v = v.items

module _ (known : Option Content) (path : List ℕ) where
  pub load_stop : (before now : List ℕ → ℕ) (s : Stop) → IsReadStop path before now s
      → OfFiles known (λ files. Meets itself (Load path) files files (Err s))
  load_stop before now s h =
      let some = some_files known in (
        some.0,
        some.1,
        at_stop items itself (ReadFront path) after_text some.0 some.0 s
            (fault_meets items (ReadFront path) some.0 some.0 path before now s h),
      )

  pub load_then : (text : List ℕ) (r : Result Presentation Stop)
      → ((told : Content) → known ≡ Some told → ReadFront path told (Ok text) told)
      → length text ≤ LONGEST_TEXT + 1 → Settles itself (after_text text) r
      → OfFiles known (λ files. Meets itself (Load path) files files r)
  load_then text r read bound h =
      let some = read_of_some_files known path text read bound in (
        some.0,
        some.1,
        after_ok (λ (text : List ℕ). text) itself
            (ReadFront path) after_text some.0 some.0 some.0 text r some.2
            (settled_meets itself (after_text text) some.0 r h),
      )

-- The laws of presentation texts.
use Rattle.std.proofs.Common.{◌≡◌, ℕ, List, Result, Ok, Err, sym, ap, ◌∙◌}
use Rattle.std.specs.Prelude.{IfErr}
use Rattle.power_commutator.specs.Presentations.{Presentation}
use Rattle.pc_text.specs.declared.fault.TextFault.{TextFault}
use Rattle.pc_text.specs.declared.fault.TextFault.TheVariants as faults
use Rattle.pc_text.specs.Faults.{Fault, ◌>>=◌}
use Rattle.pc_text.specs.Texts.{Content, content, presentation_of, read}
use Rattle.pc_text.specs.Grammar.{text_of}
use Rattle.pc_text.specs.Rules.{IsContent}
use Rattle.pc_text.specs.Views.{TextFails}
use Rattle.pc_text.specs.Laws.{TableIsGrammar, StandsFor, IsOutside}
use Rattle.pc_text.proofs.Steps.{bind_ok, ok_same, err_ok}
use Rattle.pc_text.proofs.Kept.{content_kept}
use Rattle.pc_text.proofs.SpelledTexts.{content_read}
use Rattle.pc_text.proofs.WrittenTexts.{content_written}

pub table_is_grammar : TableIsGrammar
table_is_grammar text c = (
  (λ h. (content_kept text c h, content_written text c h)),
  (λ h. ap content h.1 ∙ content_read c h.0),
)

pub stands_for : (text : List ℕ) (P : Presentation) → read text ≡ Ok P → StandsFor text P
stands_for text P h =
    let step = bind_ok (content text) (λ c. Ok (presentation_of c)) P h in
    (step.0, content_kept text step.0 step.1, content_written text step.0 step.1, sym (ok_same _ _ step.2))

outside : (text : List ℕ) (f : Fault) → read text ≡ Err f → (c : Content) → IsContent c → text ≡ text_of c → ⊥
outside text f h c good is =
    let found : content text ≡ Ok c = ap content is ∙ content_read c good in
    err_ok f (presentation_of c) (sym h ∙ ap (λ r. r >>= λ c. Ok (presentation_of c)) found)

is_outside : (e : TextFault) (text : List ℕ) → TextFails e (read text) → IsOutside e text
is_outside faults.Memory text h = tt
is_outside (faults.At kind line column) text h =
    outside text (record { kind = kind; line = line; column = column }) h

pub all_outside : {X : Type 0} (text : List ℕ) (r : Result X TextFault)
    → IfErr r (λ e. TextFails e (read text)) → IfErr r (λ e. IsOutside e text)
all_outside text (Ok x) h = tt
all_outside text (Err e) h = is_outside e text h

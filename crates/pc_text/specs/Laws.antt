-- Laws of presentation texts.
use Rattle.std.specs.Prelude.{◌≡◌, ◌≤◌, ◌↔◌, List, ℕ, Ok, Some}
use Rattle.limits.specs.declared.TheConstants.{MOST_GENERATORS}
use Rattle.power_commutator.specs.Presentations.{Presentation, IsPresentation}
use Rattle.pc_text.specs.declared.fault.TextFault.{TextFault}
use Rattle.pc_text.specs.declared.fault.TextFault.TheVariants as faults
use Rattle.pc_text.specs.Texts.{Content, content, presentation_of, read, prime}
use Rattle.pc_text.specs.Grammar.{text_of}
use Rattle.pc_text.specs.Canonical.{canonical}
use Rattle.pc_text.specs.Rules.{IsContent}

-- the table of faults and the grammar agree: a text has no fault and says c exactly where it is written from
-- c, which keeps the rules
abbrev pub TableIsGrammar : Type 0
TableIsGrammar = (text : List ℕ) (c : Content) → (content text ≡ Ok c) ↔ (IsContent c × (text ≡ text_of c))

-- a text of the grammar that stands for P
abbrev pub StandsFor : List ℕ → Presentation → Type 0
StandsFor text P = (c : Content) × IsContent c × (text ≡ text_of c) × (P ≡ presentation_of c)

-- no text of the grammar, where the answer is a fault
abbrev pub IsOutside : TextFault → List ℕ → Type 0
IsOutside faults.Memory text = Unit {0}
IsOutside (faults.At kind line column) text = (c : Content) → IsContent c → text ≡ text_of c → ⊥

-- the canonical text of a presentation has no fault, and stands for that presentation
abbrev pub CanonicalIsRead : Type 0
CanonicalIsRead =
    (P : Presentation) → IsPresentation P → prime P.prime ≡ Some P.prime → P.gens ≤ MOST_GENERATORS
    → read (canonical P) ≡ Ok P

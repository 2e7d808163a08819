-- The steps from a file to a consistent presentation.
use Rattle.std.specs.Prelude.{ℕ, ◌+◌, ◌^◌, List, length, take, nat_lt}
use Rattle.std.specs.declared.option.Option.{Option}
use Rattle.std.specs.declared.option.Option.TheVariants.{None, Some}
use Rattle.std.specs.declared.result.Result.{Result}
use Rattle.std.specs.declared.result.Result.TheVariants.{Ok, Err}
use Rattle.std.specs.Option.{option_map}
use Rattle.limits.specs.declared.TheConstants.{GREATEST_ORDER, LONGEST_TEXT}
use Rattle.coho_io.specs.Content.{file}
use Rattle.power_commutator.specs.declared.TestName.{TestName}
use Rattle.power_commutator.specs.Presentations.{Presentation, first_fault}
use Rattle.pc_text.specs.Faults.{Fault}
use Rattle.pc_text.specs.Texts.{read}
use Rattle.coho_steps.specs.Steps.{◌>>=◌, Step, Gives, Refuses, OrRefuse, RefuseIf}
use Rattle.coho_steps.specs.Refusals.{read_refused, length_refused, text_refused, order_refused, test_refused}

-- a file, to its end or to one byte more than a text may have
abbrev pub ReadFront : List ℕ → Step (List ℕ)
ReadFront path files = OrRefuse (read_refused path)
    (option_map (take (LONGEST_TEXT + 1)) (file files path)) files

-- not too long
abbrev pub FitLength : List ℕ → Step (Unit {0})
FitLength text = RefuseIf (nat_lt LONGEST_TEXT (length text)) length_refused

abbrev pub OrFault : Result Presentation Fault → Step Presentation
OrFault (Ok P) = Gives P
OrFault (Err fault) = Refuses (text_refused fault)

-- the presentation that the text stands for, or the text's first fault
abbrev pub Present : List ℕ → Step Presentation
Present text = OrFault (read text)

-- p^n
abbrev pub order : Presentation → ℕ
order P = P.prime ^ P.gens

-- the order is not too great
abbrev pub FitOrder : Presentation → Step (Unit {0})
FitOrder P = RefuseIf (nat_lt GREATEST_ORDER (order P)) order_refused

abbrev pub UnlessFalse : Presentation → Option TestName → Step Presentation
UnlessFalse P None = Gives P
UnlessFalse P (Some name) = Refuses (test_refused name)

-- no consistency test is false
abbrev pub Test : Presentation → Step Presentation
Test P = UnlessFalse P (first_fault P)

-- the presentation of a text that is not too long
abbrev pub ReadText : List ℕ → Step Presentation
ReadText text = do
  _ ← FitLength text
  Present text

-- a presentation whose order is not too great, and in which no consistency test is false
abbrev pub Accept : Presentation → Step Presentation
Accept P = do
  _ ← FitOrder P
  Test P

-- the consistent presentation of a file
abbrev pub Load : List ℕ → Step Presentation
Load path = do
  text ← ReadFront path
  P ← ReadText text
  Accept P

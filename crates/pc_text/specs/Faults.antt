-- Faults, and rows of a table of faults: the first row that applies gives the fault.
use Rattle.std.specs.Prelude.{ℕ, Bool, true, false, Option, Some, None, Result, Ok, Err}
use Rattle.pc_text.specs.declared.fault.Kind.{Kind}
use Rattle.pc_text.specs.declared.fault.LineFault.{LineFault}

-- a fault of a text; a fault of a line, of type LineFault, has a kind and a column
pub record Fault : Type 0 where
  pub kind : Kind
  pub line : ℕ
  pub column : ℕ

infixl 10 ◌>>=◌
-- the first fault, and else what follows
abbrev pub ◌>>=◌ : {A B E : Type 0} → Result A E → (A → Result B E) → Result B E
(Ok x) >>= f = f x
(Err e) >>= f = Err e

-- a row: where there is no value, this kind at this column
abbrev pub expect : {A : Type 0} → Kind → ℕ → Option A → Result A LineFault
expect kind column (Some x) = Ok x
expect kind column None = Err (record { kind = kind; column = column })

-- a row: where the test is false, this kind at this column
abbrev pub require : Kind → ℕ → Bool → Result (Unit {0}) LineFault
require kind column true = Ok tt
require kind column false = Err (record { kind = kind; column = column })

-- a fault of a line is a fault of the text in that line
abbrev pub in_line : {A : Type 0} → ℕ → Result A LineFault → Result A Fault
in_line line (Ok x) = Ok x
in_line line (Err bad) = Err (record { kind = bad.kind; line = line; column = bad.column })

-- The grammar of polynomial texts as an automaton, for the prime p = q + 1: the state behind a byte, where a
-- text goes on with it.
use Rattle.std.specs.Prelude.{ℕ, ◌+◌, ◌-◌, ◌*◌, Bool, true, false, ◌&&◌, eqb, leb, Option, None, Some, List}
use Rattle.std.specs.Prelude.{[], ◌∷◌, if◌then◌else◌}
use Rattle.std.specs.Option.{option_and_then}
use Rattle.limits.specs.declared.TheConstants.{GREATEST_DEGREE}
use Rattle.graded_polynomials.specs.Texts.{star, plus_sign}
use Rattle.polynomial_texts.specs.Grammar.{is_letter, is_digit, is_name_byte, caret}
use Rattle.polynomial_reader.specs.declared.syntax.State.{State}
use Rattle.polynomial_reader.specs.declared.syntax.State.TheVariants.{Start, Zero, One, Coefficient}
use Rattle.polynomial_reader.specs.declared.syntax.State.TheVariants.{TermStart, FactorStart, Name, Caret}
use Rattle.polynomial_reader.specs.declared.syntax.State.TheVariants.{ExponentDigit, Exponent}

abbrev pub separator : ℕ → Option State
separator b = if eqb b star then Some FactorStart else if eqb b plus_sign then Some TermStart else None

abbrev pub term_start : ℕ → ℕ → Option State
term_start q b = if is_letter b then Some Name else if leb 49 b && leb b
    (48 + q) then Some Coefficient else None

abbrev pub exponent_start : ℕ → Option State
exponent_start b = if leb 49 b && leb b 57 then Some (ExponentDigit (b - 48)) else None

-- an exponent with the first digit c goes on with the byte
abbrev pub goes_on : ℕ → ℕ → Bool
goes_on c b = is_digit b && leb (10 * c + (b - 48)) GREATEST_DEGREE

abbrev pub after : ℕ → State → ℕ → Option State
after q Start b = if eqb b 48 then Some Zero else if eqb b 49 then Some One else term_start q b
after q Zero b = None
after q One b = if eqb b star then Some FactorStart else None
after q Coefficient b = if eqb b star then Some FactorStart else None
after q TermStart b = term_start q b
after q FactorStart b = if is_letter b then Some Name else None
after q Name b = if is_name_byte b then Some Name else if eqb b caret then Some Caret else separator b
after q Caret b = exponent_start b
after q (ExponentDigit c) b = if goes_on c b then Some Exponent else separator b
after q Exponent b = separator b

-- the state behind all bytes, where some text begins with them
abbrev pub run : ℕ → State → List ℕ → Option State
run q s [] = Some s
run q s (b ∷ bs) = option_and_then (λ t. run q t bs) (after q s b)

abbrev pub is_end : State → Bool
is_end Start = false
is_end Zero = true
is_end One = true
is_end Coefficient = false
is_end TermStart = false
is_end FactorStart = false
is_end Name = true
is_end Caret = false
is_end (ExponentDigit c) = true
is_end Exponent = true

-- Words: `1`, or factors joined by `*` with ascending generators.
use Rattle.std.specs.Prelude.{ℕ, ◌+◌, ◌-◌, ◌==◌, nat_lt, Bool, false, if◌then◌else◌, List, [], ◌∷◌, length}
use Rattle.std.specs.Prelude.{set, replicate, Option, Some, None, Result, Ok, bytes_eq, codes}
use Rattle.std.specs.List.{slice_split}
use Rattle.pc_text.specs.declared.fault.Kind.TheVariants as kind
use Rattle.pc_text.specs.declared.fault.LineFault.{LineFault}
use Rattle.pc_text.specs.Bytes.{letter_g, caret, star}
use Rattle.pc_text.specs.Faults.{◌>>=◌, expect}
use Rattle.pc_text.specs.Lines.{cut_at}
use Rattle.pc_text.specs.Numerals.{numeral, is_digits}

-- what the first lines fix: the prime, the number of generators, what has the shape of a name, and the
-- generator of a name
pub record Naming : Type 0 where
  pub prime : ℕ
  pub gens : ℕ
  pub is_name : List ℕ → Bool
  pub generator : List ℕ → Option ℕ

-- `g` and digits
abbrev pub is_g_name : List ℕ → Bool
is_g_name [] = false
is_g_name (b ∷ digits) = if b == letter_g then is_digits digits else false

-- `g1` to `gn`
abbrev pub g_generator : ℕ → List ℕ → Option ℕ
g_generator n [] = None
g_generator n (b ∷ digits) = if b == letter_g then numeral 1 n digits else None

-- the generators are called `g1` to `gn`
abbrev pub by_number : ℕ → ℕ → Naming
by_number p n = record { prime = p; gens = n; is_name = is_g_name; generator = g_generator n }

-- a generator and its exponent
abbrev pub Factor : Type 0
Factor = ℕ × ℕ

-- both, where both are there
abbrev pub both : Option ℕ → Option ℕ → Option Factor
both (Some k) (Some e) = Some (k, e)
both (Some k) None = None
both None e = None

-- `A`, or `A^E` with E from 2 to p-1
abbrev pub factor_parts : Naming → List ℕ → Option (List ℕ × List ℕ) → Option Factor
factor_parts names piece (Some parts) = both (names.generator parts.0) (numeral 2 (names.prime - 1) parts.1)
factor_parts names piece None = both (names.generator piece) (Some 1)

abbrev pub factor : Naming → List ℕ → Option Factor
factor names piece = factor_parts names piece (cut_at caret piece)

-- a factor whose generator comes after this one
abbrev pub above : ℕ → Option Factor → Option Factor
above least None = None
above least (Some f) = if nat_lt least f.0 then Some f else None

-- the exponents with those of the pieces written in; the first piece stands at this column, and its generator
-- comes after least
abbrev pub factors : Naming → ℕ → ℕ → List ℕ → List (List ℕ) → Result (List ℕ) LineFault
factors names least column exponents [] = Ok exponents
factors names least column exponents (piece ∷ pieces) = do
  f ← expect kind.BadWord column (above least (factor names piece))
  factors names f.0 (column + length piece + 1) (set exponents (f.0 - 1) f.1) pieces

-- the word at this column, with generators after least
abbrev pub word : Naming → ℕ → ℕ → List ℕ → Result (List ℕ) LineFault
word names least column bytes =
    if bytes_eq bytes (codes "1")
    then Ok (replicate names.gens 0)
    else factors names least column (replicate names.gens 0) (slice_split (λ b. b == star) bytes)

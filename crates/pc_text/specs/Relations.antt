-- A line with a relation: its shape, and the rows of the table of faults from BadLine on.
use Rattle.std.specs.Prelude.{ℕ, ◌+◌, ◌==◌, ◌&&◌, not, nat_lt, Bool, false, if◌then◌else◌, List, [], ◌∷◌}
use Rattle.std.specs.Prelude.{length, Option, Some, None, option_and_then, is_some, Result, Ok, codes}
use Rattle.std.specs.List.{list_any}
use Rattle.pc_text.specs.declared.fault.Kind.TheVariants as kind
use Rattle.pc_text.specs.declared.fault.LineFault.{LineFault}
use Rattle.pc_text.specs.declared.place.Place.{Place}
use Rattle.pc_text.specs.declared.place.Place.TheVariants.{Power, Commutator}
use Rattle.pc_text.specs.Bytes.{space, comma, open_bracket, close_bracket, caret}
use Rattle.pc_text.specs.Faults.{◌>>=◌, expect, require}
use Rattle.pc_text.specs.Lines.{cut_at, after_front}
use Rattle.pc_text.specs.Numerals.{numeral, is_digits}
use Rattle.pc_text.specs.Words.{Naming, word}

-- the parts of a left side: `NAME^DIGITS`, or `[NAME,NAME]`
pub data Left : Type 0 where
  PowerOf : List ℕ → List ℕ → Left
  CommutatorOf : List ℕ → List ℕ → Left

-- the shape

-- `NAME^DIGITS`
abbrev pub power_parts : Naming → List ℕ × List ℕ → Option Left
power_parts names parts =
    if names.is_name parts.0 && is_digits parts.1 then Some (PowerOf parts.0 parts.1) else None

abbrev pub power_shape : Naming → List ℕ → Option Left
power_shape names bytes = option_and_then (power_parts names) (cut_at caret bytes)

-- `NAME]` behind `[NAME,`
abbrev pub second_parts : Naming → List ℕ → List ℕ × List ℕ → Option Left
second_parts names b parts =
    if names.is_name b && names.is_name parts.0 && (length parts.1 == 0)
    then Some (CommutatorOf b parts.0)
    else None

abbrev pub commutator_parts : Naming → List ℕ × List ℕ → Option Left
commutator_parts names parts = option_and_then (second_parts names parts.0) (cut_at close_bracket parts.1)

-- `NAME,NAME]` behind `[`
abbrev pub commutator_shape : Naming → List ℕ → Option Left
commutator_shape names bytes = option_and_then (commutator_parts names) (cut_at comma bytes)

abbrev pub left_shape : Naming → List ℕ → Option Left
left_shape names [] = None
left_shape names (b ∷ bytes) = if b == open_bracket then commutator_shape names bytes else power_shape names
    (b ∷ bytes)

-- the parts of a line: a left side, ` = `, and at least one byte, of which the first is at this column
pub record Shape : Type 0 where
  pub left : Left
  pub right : List ℕ
  pub column : ℕ

abbrev pub joined : ℕ → Option Left → Option (List ℕ) → Option Shape
joined column (Some left) (Some right) =
    if length right == 0 then None else Some (record { left = left; right = right; column = column })
joined column (Some left) None = None
joined column None right = None

abbrev pub shape_parts : Naming → List ℕ × List ℕ → Option Shape
shape_parts names parts = joined (length parts.0 + 4) (left_shape names parts.0)
    (after_front (codes "= ") parts.1)

abbrev pub shape : Naming → List ℕ → Option Shape
shape names bytes = option_and_then (shape_parts names) (cut_at space bytes)

-- the rows

-- BadGenerator, BadPower and BadOrder
abbrev pub left_side : Naming → Left → Result Place LineFault
left_side names (PowerOf a digits) = do
  i ← expect kind.BadGenerator 1 (names.generator a)
  _ ← require kind.BadPower (length a + 2) (is_some (numeral names.prime names.prime digits))
  Ok (Power i)
left_side names (CommutatorOf b a) = do
  j ← expect kind.BadGenerator 2 (names.generator b)
  i ← expect kind.BadGenerator (length b + 3) (names.generator a)
  _ ← require kind.BadOrder 1 (nat_lt i j)
  Ok (Commutator j i)

-- the generator after which those of the word come
abbrev pub least : Place → ℕ
least (Power i) = i
least (Commutator j i) = j

abbrev pub same_place : Place → Place → Bool
same_place (Power i) (Power k) = i == k
same_place (Commutator j i) (Commutator m k) = (j == m) && (i == k)
same_place (Power i) (Commutator m k) = false
same_place (Commutator j i) (Power k) = false

-- a left side and its word
pub record Relation : Type 0 where
  pub place : Place
  pub word : List ℕ

-- one of the relations has this left side
abbrev pub stands : Place → List Relation → Bool
stands place earlier = list_any (λ r. same_place place r.place) earlier

-- the relation of a line after these
abbrev pub relation : Naming → List Relation → List ℕ → Bool → Result Relation LineFault
relation names earlier bytes ended = do
  _ ← require kind.BadLine 1 ended
  parts ← expect kind.BadLine 1 (shape names bytes)
  place ← left_side names parts.left
  exponents ← word names (least place) parts.column parts.right
  _ ← require kind.Repeated 1 (not (stands place earlier))
  Ok (record { place = place; word = exponents })

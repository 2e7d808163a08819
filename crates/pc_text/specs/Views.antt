-- What the program's values show.
use Rattle.std.specs.Prelude.{◌≡◌, ◌≤◌, ◌^◌, ◌+◌, ◌∷◌, ◌++◌, [], ℕ, List, length, map, Result, Ok, Err}
use Rattle.pc_text.specs.declared.fault.LineFault.{LineFault}
use Rattle.pc_text.specs.declared.fault.LineStop.{LineStop}
use Rattle.pc_text.specs.declared.fault.LineStop.TheVariants as stops
use Rattle.pc_text.specs.declared.fault.TextFault.{TextFault}
use Rattle.pc_text.specs.declared.fault.TextFault.TheVariants as faults
use Rattle.pc_text.specs.declared.relations.Left.{Left}
use Rattle.pc_text.specs.declared.relations.Left.TheVariants as left
use Rattle.pc_text.specs.declared.relations.Shape.{Shape}
use Rattle.pc_text.specs.declared.relations.Relation.{Relation}
use Rattle.pc_text.specs.Relations as table
use Rattle.pc_text.specs.Lines.{lines_from}
use Rattle.pc_text.specs.declared.generators.Generators.{Generators}
use Rattle.group_table.specs.Prime.{prime_value}
use Rattle.pc_text.specs.Words.{Naming, by_number}
use Rattle.pc_text.specs.declared.texts.Content.{Content}
use Rattle.pc_text.specs.Texts.{relations}
use Rattle.pc_text.specs.Texts as texts
use Rattle.pc_text.specs.Faults.{Fault}
use Rattle.power_commutator.specs.Presentations.{Presentation}
use Rattle.pc_group.specs.Parts.{with_power, with_commutator}
use Rattle.pc_text.specs.declared.place.Place.{Place}
use Rattle.pc_text.specs.declared.place.Place.TheVariants as places

-- What a function returned, seen by view, is what reading a line gives, unless memory ran out.
abbrev pub LineFails : {Y : Type 0} → LineStop → Result Y LineFault → Type 0
LineFails stops.Memory read = Unit {0}
LineFails (stops.Fault bad) read = read ≡ Err bad

abbrev pub LineGives : {X Y : Type 0} → (X → Y) → Result X LineStop → Result Y LineFault → Type 0
LineGives view (Ok x) read = read ≡ Ok (view x)
LineGives view (Err e) read = LineFails e read

-- The same of a text.
abbrev pub TextFails : {Y : Type 0} → TextFault → Result Y Fault → Type 0
TextFails faults.Memory read = Unit {0}
TextFails (faults.At kind line column) read =
    read ≡ Err (record { kind = kind; line = line; column = column })

abbrev pub TextGives : {X Y : Type 0} → (X → Y) → Result X TextFault → Result Y Fault → Type 0
TextGives view (Ok x) read = read ≡ Ok (view x)
TextGives view (Err e) read = TextFails e read

-- the generators `g1` to `gn` over the prime of the first lines
abbrev pub names_of : Generators → Naming
names_of generators = by_number (prime_value generators.prime) generators.gens

abbrev pub shown_left : Left → table.Left
shown_left (left.Power a digits) = table.PowerOf a.now digits.now
shown_left (left.Commutator b a) = table.CommutatorOf b.now a.now

abbrev pub shown_shape : Shape → table.Shape
shown_shape s = record { left = shown_left s.left; right = s.right.now; column = s.column }

abbrev pub shown : Relation → table.Relation
shown r = record { place = r.place; word = r.word.items }

-- the length of the first name
abbrev pub name_len : Left → ℕ
name_len (left.Power a digits) = length a.now
name_len (left.Commutator b a) = length b.now

abbrev pub HasSmallColumn : LineStop → Type 0
HasSmallColumn (stops.Fault bad) = bad.column ≤ 2 ^ 20
HasSmallColumn stops.Memory = Unit {0}

abbrev pub all_shown : List Relation → List table.Relation
all_shown rs = map shown rs

abbrev pub shown_content : Content → texts.Content
shown_content c = record {
  prime = prime_value c.generators.prime;
  gens = c.generators.gens;
  relations = all_shown c.relations.items;
}

-- the first line of the text gives this relation, and next is the text after it
pub record GoesOn (names : Naming) (found : List table.Relation) (r : table.Relation) (number : ℕ)
    (text next : List ℕ) : Type 0 where
  pub same : relations names found (lines_from number text) ≡ relations names (found ++ r ∷ [])
      (lines_from (number + 1) next)
  pub less : length next + 1 ≤ length text

-- a stop in this line
abbrev pub at_line : ℕ → LineStop → TextFault
at_line n (stops.Fault bad) = faults.At bad.kind n bad.column
at_line n stops.Memory = faults.Memory

-- P, with the word of this relation
abbrev pub with_place : Presentation → Place → List ℕ → Presentation
with_place P (places.Power i) w = with_power P i w
with_place P (places.Commutator j i) w = with_commutator P j i w

abbrev pub with_relation : Presentation → table.Relation → Presentation
with_relation P r = with_place P r.place r.word

-- The presentation text: what it says, or its first fault.
use Rattle.std.specs.Prelude.{ℕ, ◌==◌, ◌||◌, if◌then◌else◌, List, [], ◌∷◌, ◌++◌, drop, Option, Some, None}
use Rattle.std.specs.Prelude.{option_and_then, Result, Ok, codes, bytes_eq}
use Rattle.limits.specs.declared.TheConstants.{MOST_GENERATORS}
use Rattle.power_commutator.specs.Presentations.{Presentation}
use Rattle.pc_text.specs.declared.fault.Kind.TheVariants as kind
use Rattle.pc_text.specs.Faults.{Fault, ◌>>=◌, expect, in_line}
use Rattle.pc_text.specs.Lines.{Line, lines, after_front}
use Rattle.pc_text.specs.Numerals.{numeral}
use Rattle.pc_text.specs.Words.{Naming, by_number}
use Rattle.pc_text.specs.Relations.{Relation, relation}
use Rattle.pc_text.specs.FromRelations.{with_relations}

-- what a text says: p, n and the relations in order
pub record Content : Type 0 where
  pub prime : ℕ
  pub gens : ℕ
  pub relations : List Relation

-- the presentation that it stands for
abbrev pub presentation_of : Content → Presentation
presentation_of c = with_relations c.prime c.gens c.relations

-- the bytes of the first of these lines, where there is one and it has its LF
abbrev pub first_bytes : List Line → Option (List ℕ)
first_bytes [] = None
first_bytes (line ∷ more) = if line.ended then Some line.bytes else None

-- `pgroup 1`
abbrev pub header : List ℕ → Option (Unit {0})
header bytes = if bytes_eq bytes (codes "pgroup 1") then Some tt else None

-- one of `2`, `3`, `5`, `7`
abbrev pub prime : ℕ → Option ℕ
prime p = if (p == 2) || (p == 3) || (p == 5) || (p == 7) then Some p else None

-- `prime P`
abbrev pub prime_line : List ℕ → Option ℕ
prime_line bytes =
    option_and_then prime (option_and_then (numeral 0 9) (after_front (codes "prime ") bytes))

-- `gens C`
abbrev pub count_line : List ℕ → Option ℕ
count_line bytes = option_and_then (numeral 0 MOST_GENERATORS) (after_front (codes "gens ") bytes)

-- the relations of the lines, in order, behind those of earlier lines
abbrev pub relations : Naming → List Relation → List Line → Result (List Relation) Fault
relations names earlier [] = Ok earlier
relations names earlier (line ∷ more) = do
  r ← in_line line.number (relation names earlier line.bytes line.ended)
  relations names (earlier ++ r ∷ []) more

-- the lines, taken in order
abbrev pub reads : List Line → Result Content Fault
reads ls = do
  _ ← in_line 1 (expect kind.BadHeader 1 (option_and_then header (first_bytes ls)))
  p ← in_line 2 (expect kind.BadPrime 1 (option_and_then prime_line (first_bytes (drop 1 ls))))
  n ← in_line 3 (expect kind.BadCount 1 (option_and_then count_line (first_bytes (drop 2 ls))))
  found ← relations (by_number p n) [] (drop 3 ls)
  Ok (record { prime = p; gens = n; relations = found })

-- what a text says, or its first fault
abbrev pub content : List ℕ → Result Content Fault
content text = reads (lines text)

-- the presentation that a text stands for, or its first fault
abbrev pub read : List ℕ → Result Presentation Fault
read text = content text >>= λ c. Ok (presentation_of c)

-- The text again, line by line, as the program cuts it.
use Rattle.std.specs.Prelude.{ℕ, List, [], Option, Some, None, Result, Ok}
use Rattle.pc_text.specs.declared.fault.Kind.{Kind}
use Rattle.pc_text.specs.declared.fault.Kind.TheVariants as kind
use Rattle.pc_text.specs.Bytes.{line_feed}
use Rattle.pc_text.specs.Faults.{Fault, ◌>>=◌, expect, in_line}
use Rattle.pc_text.specs.Lines.{cut_at, lines_from}
use Rattle.pc_text.specs.Words.{by_number}
use Rattle.pc_text.specs.Texts.{Content, header, prime_line, count_line, relations}

-- a line that has its LF and is of its form, and the text after it
abbrev pub checked : {A : Type 0} → Kind → ℕ → (List ℕ → Option A) → Option (List ℕ × List ℕ)
    → Result (A × List ℕ) Fault
checked kind n form None = in_line n (expect kind 1 None)
checked kind n form (Some cut) = in_line n (expect kind 1 (form cut.0)) >>= λ x. Ok (x, cut.1)

unfoldable pub by_cuts : List ℕ → Result Content Fault
by_cuts text = do
  h ← checked kind.BadHeader 1 header (cut_at line_feed text)
  p ← checked kind.BadPrime 2 prime_line (cut_at line_feed h.1)
  n ← checked kind.BadCount 3 count_line (cut_at line_feed p.1)
  found ← relations (by_number p.0 n.0) [] (lines_from 4 n.1)
  Ok (record { prime = p.0; gens = n.0; relations = found })

-- The lines of a text, and where a byte cuts.
use Rattle.std.specs.Prelude.{ℕ, ◌+◌, ◌==◌, Bool, true, false, if◌then◌else◌, List, [], ◌∷◌, length, drop}
use Rattle.std.specs.Prelude.{Option, Some, None, nat_eq, nat_lt}
use Rattle.std.specs.List.{slice_split, starts_with, position_or_len, before_first, after_first}
use Rattle.pc_text.specs.Bytes.{line_feed}

-- a line with its number, without its LF; ended says whether it has one
pub record Line : Type 0 where
  pub number : ℕ
  pub bytes : List ℕ
  pub ended : Bool

-- the part behind the last LF: it has no LF, and is no line where it is empty
abbrev pub last_line : ℕ → List ℕ → List Line
last_line n [] = []
last_line n (b ∷ bytes) = record { number = n; bytes = b ∷ bytes; ended = false } ∷ []

-- the parts of a text that its LFs cut, as lines with the numbers from n on
abbrev pub numbered : ℕ → List (List ℕ) → List Line
numbered n [] = []
numbered n (part ∷ []) = last_line n part
numbered n (part ∷ next ∷ parts) =
    record { number = n; bytes = part; ended = true } ∷ numbered (n + 1) (next ∷ parts)

-- the lines of a text of which the first has the number n
abbrev pub lines_from : ℕ → List ℕ → List Line
lines_from n text = numbered n (slice_split (λ b. b == line_feed) text)

abbrev pub lines : List ℕ → List Line
lines text = lines_from 1 text

-- what stands before the first b and after it, where there is one
abbrev pub cut_at : ℕ → List ℕ → Option (List ℕ × List ℕ)
cut_at b bytes =
    if nat_lt (position_or_len (λ x. x == b) bytes) (length bytes)
    then Some (before_first (λ x. x == b) bytes, after_first (λ x. x == b) bytes)
    else None

-- what stands after this front, where the bytes begin with it
abbrev pub after_front : List ℕ → List ℕ → Option (List ℕ)
after_front front bytes = if starts_with nat_eq bytes front then Some (drop (length front) bytes) else None

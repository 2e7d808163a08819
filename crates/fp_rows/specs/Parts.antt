-- Rows of which a part gains a multiple of a row, and rows of zeros.
use Rattle.std.specs.Prelude.{◌≡◌, ◌≢◌, ℕ, ◌+◌, ◌*◌, ◌%◌, ◌<◌, ◌≤◌, List, length}
use Rattle.linear_algebra.specs.Rows.{entry}

-- the numbers from place `start` on gain c times those of the part, modulo p, and the others stay
pub record GainsPart (p start c : ℕ) (part old new : List ℕ) : Type 0 where
  pub same_length : length new ≡ length old
  pub inside : (j : ℕ) → j < length part
      → entry new (start + j) ≡ (entry old (start + j) + c * entry part j) % p
  pub before : (j : ℕ) → j < start → entry new j ≡ entry old j
  pub after : (j : ℕ) → start + length part ≤ j → entry new j ≡ entry old j

-- each number is 0
abbrev pub IsZero : List ℕ → Type 0
IsZero xs = (j : ℕ) → j < length xs → entry xs j ≡ 0

-- i is the first place from place `from` on at which the number is not 0, and the length where there is none
pub record IsNextPlace (xs : List ℕ) (from i : ℕ) : Type 0 where
  pub after : from ≤ i
  pub within : i ≤ length xs
  pub before : (j : ℕ) → from ≤ j → j < i → entry xs j ≡ 0
  pub here : i < length xs → entry xs i ≢ 0

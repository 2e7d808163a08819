-- Packed lists of numbers below 2.
use Rattle.std.specs.Prelude.{◌≡◌, ℕ, ◌+◌, ◌/◌, ◌^◌, ◌<◌, ◌≤◌, List, length}
use Rattle.fp_rows.specs.Places.{place}

-- as many words as `len` places need, with 0 after the last place
pub record IsPacked (words : List ℕ) (len : ℕ) : Type 0 where
  pub small : len < 2 ^ 64
  pub count : length words ≡ (len + 63) / 64
  pub zero : (j : ℕ) → len ≤ j → place words j ≡ 0

-- Lists of numbers below 2, in words of 64 places: place i is bit i % 64 of word i / 64.
use Rattle.std.specs.Prelude.{ℕ, ◌/◌, ◌%◌, List, map, slice_index_or}
use Rattle.std.specs.Int.{bit_at}
use Rattle.std.specs.List.{range_with_len}

-- the number at place i, and 0 past the last word
unfoldable pub place : List ℕ → ℕ → ℕ
place words i = bit_at (slice_index_or words (i / 64) 0) (i % 64)

-- the `len` numbers from place `from` on
unfoldable pub places : List ℕ → ℕ → ℕ → List ℕ
places words from len = map (place words) (range_with_len from len)

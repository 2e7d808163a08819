-- Counts of monomials by degree, one generator after another.
use Rattle.std.specs.Prelude.{◌≡◌, ℕ, ◌+◌, ◌-◌, ◌^◌, ◌<◌, ◌≤◌, min, List, length, slice_index}

-- new is old, and from d on each count gains that of others d places before, up to 2^64 - 1
pub record AreSums (d : ℕ) (old others new : List ℕ) : Type 0 where
  pub same : (j : ℕ) → j < d → slice_index new j ≡ slice_index old j
  pub more : (j : ℕ) → d ≤ j → j < length old
      → slice_index new j ≡ min (slice_index old j + slice_index others (j - d)) (2 ^ 64 - 1)

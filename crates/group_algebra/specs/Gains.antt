-- Rows of free modules of which one block, or each, gains multiples of rows.
use Rattle.std.specs.Prelude.{◌≡◌, ◌≢◌, ℕ, List, [], ◌∷◌, ◌+◌, ◌*◌, ◌<◌, ◌≤◌, length}
use Rattle.linear_algebra.specs.Modular.{IsCongruent, sum_below}
use Rattle.linear_algebra.specs.Rows.{entry, row, IsRow}
use Rattle.radical_layers.specs.Placing.{size_of, place_of}
use Rattle.group_algebra.specs.Places.{start_at}

-- every step-th row, from the first on
abbrev pub stepped : List (List ℕ) → ℕ → ℕ → ℕ → List ℕ
stepped rows first step k = row rows (first + k * step)

-- entry j of the image of member k: that of every step-th row, from the first on; with factors, that of the
-- sum of as many rows from there on, each times its factor
abbrev pub image_at : List (List ℕ) → ℕ → ℕ → List ℕ → ℕ → ℕ → ℕ
image_at rows first step [] k j = entry (stepped rows first step k) j
image_at rows first step (f ∷ fs) k j = sum_below (length (f ∷ fs))
    (λ i. entry (f ∷ fs) i * entry (row rows (first + k * step + i)) j)

-- how many rows an image takes
abbrev pub reach : List ℕ → ℕ
reach [] = 1
reach (f ∷ fs) = length (f ∷ fs)

-- block i gains f, member by member, and the other blocks stay
pub record BlockGains (p : ℕ) (sizes : List ℕ) (rank i : ℕ) (f : ℕ → ℕ) (old new : List ℕ) : Type 0 where
  pub is_row : IsRow p (size_of sizes * rank) new
  pub gained : (j : ℕ) → j < size_of sizes
      → IsCongruent p (entry new (place_of sizes rank i j)) (entry old (place_of sizes rank i j) + f j)
  pub kept : (m j : ℕ) → m < rank → m ≢ i → j < size_of sizes
      → entry new (place_of sizes rank m j) ≡ entry old (place_of sizes rank m j)

-- entry j of c times the image of block i of v under the map that takes member k to the row of the R k j
abbrev pub image_entry : List ℕ → ℕ → (ℕ → ℕ → ℕ) → ℕ → List ℕ → ℕ → ℕ → ℕ
image_entry sizes rank R c v i j = c * sum_below (size_of sizes)
    (λ k. entry v (place_of sizes rank i k) * R k j)

-- each block gains c times the image of the block of v
pub record GainsImage (p : ℕ) (sizes : List ℕ) (rank : ℕ)
    (R : ℕ → ℕ → ℕ) (c : ℕ) (v old new : List ℕ) : Type 0 where
  pub is_row : IsRow p (size_of sizes * rank) new
  pub each : (i j : ℕ) → i < rank → j < size_of sizes
      → IsCongruent p (entry new (place_of sizes rank i j))
      (entry old (place_of sizes rank i j) + image_entry sizes rank R c v i j)

-- each entry of block i is 0
abbrev pub IsZeroBlock : List ℕ → ℕ → ℕ → List ℕ → Type 0
IsZeroBlock sizes rank i v = (k : ℕ) → k < size_of sizes → entry v (place_of sizes rank i k) ≡ 0

-- each block is 0 at the `start` members before this layer
pub record BeginsAt (sizes : List ℕ) (rank layer start : ℕ) (v : List ℕ) : Type 0 where
  pub within : layer ≤ length sizes
  pub start_is : start ≡ start_at sizes layer
  pub zero : (i k : ℕ) → i < rank → k < start → entry v (place_of sizes rank i k) ≡ 0

-- The images of rows under maps, one after another.
use Rattle.std.specs.Prelude.{◌≡◌, ℕ, ◌+◌, ◌*◌, ◌<◌, List, length}
use Rattle.linear_algebra.specs.Modular.{IsCongruent}
use Rattle.linear_algebra.specs.Rows.{entry, row}

-- the images of the rows under the first m maps: first those of row 0, then those of row 1 and so on
pub record AreImages (p m : ℕ) (image : ℕ → (ℕ → ℕ) → ℕ → ℕ) (rows images : List (List ℕ)) : Type 0 where
  pub count : length images ≡ length rows * m
  pub each : (i k : ℕ) → i < length rows → k < m → (j : ℕ)
      → IsCongruent p (entry (row images (i * m + k)) j) (image k (entry (row rows i)) j)

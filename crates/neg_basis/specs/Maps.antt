-- Vectors under linear maps, and the submodule that generators generate.
use Rattle.std.specs.Prelude.{ℕ, ◌<◌, List}
use Rattle.linear_algebra.specs.Rows.{IsInSpan, AreInSpan}

-- the span of the rows is closed under the first m maps: each sends each vector of the span into the span
pub record IsClosed (p m : ℕ) (image : ℕ → (ℕ → ℕ) → ℕ → ℕ) (rows : List (List ℕ)) : Type 0 where
  pub each : (i : ℕ) → i < m → (v : ℕ → ℕ) → IsInSpan p rows v → IsInSpan p rows (image i v)

-- v is in the submodule that the generators generate: in each span that has the generators and is closed
-- under the maps
pub record IsInSubmodule (p m : ℕ) (image : ℕ → (ℕ → ℕ) → ℕ → ℕ) (gens : List (List ℕ)) (v : ℕ → ℕ)
    : Type 0 where
  pub in_each : (rows : List (List ℕ)) → AreInSpan p rows gens → IsClosed p m image rows → IsInSpan p rows v

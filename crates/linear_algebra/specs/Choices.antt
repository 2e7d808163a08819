-- The greedy complement of a subspace, and the preimage that a complement of the kernel singles out.
use Rattle.std.specs.Prelude.{◌≡◌, ℕ, zero, suc, ◌<◌, ◌⊎◌, List, [], ◌∷◌, ◌++◌, length, map}
use Rattle.linear_algebra.specs.Rows.{entry, row, pivot, IsRow, IsCombination, IsInSpan}

-- the rows at these positions
abbrev pub rows_at : List (List ℕ) → List ℕ → List (List ℕ)
rows_at rows positions = map (row rows) positions

-- the positions that are taken among the first n rows of s: a row is taken where it is not in the span of t
-- and the rows taken before
abbrev pub IsGreedyBelow : ℕ → List (List ℕ) → List (List ℕ) → ℕ → List ℕ → Type 0
IsGreedyBelow p s t zero positions = positions ≡ []
IsGreedyBelow p s t (suc n) positions =
    (IsGreedyBelow p s t n positions × IsInSpan p (t ++ rows_at s positions) (entry (row s n)))
    ⊎ ((before : List ℕ) × IsGreedyBelow p s t n before
    × ¬ (IsInSpan p (t ++ rows_at s before) (entry (row s n))) × (positions ≡ before ++ n ∷ []))

-- the positions in s of Greedy(s, t)
abbrev pub IsGreedy : ℕ → List (List ℕ) → List (List ℕ) → List ℕ → Type 0
IsGreedy p s t positions = IsGreedyBelow p s t (length s) positions

-- u is the preimage of the target under the map that takes unit vector i to row i, and 0 at every pivot of
-- the kernel
pub record IsPreimage (p : ℕ) (rows kernel : List (List ℕ)) (target u : List ℕ) : Type 0 where
  pub is_row : IsRow p (length rows) u
  pub maps : IsCombination p (entry u) rows (entry target)
  pub zero_at_pivots : (i : ℕ) → i < length kernel → entry u (pivot (row kernel i)) ≡ 0

-- each of these rows is the preimage of the target at its position
pub record ArePreimages (p : ℕ) (rows kernel targets us : List (List ℕ)) : Type 0 where
  pub count : length us ≡ length targets
  pub each : (i : ℕ) → i < length targets → IsPreimage p rows kernel (row targets i) (row us i)

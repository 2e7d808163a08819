-- One step of Gauss-Jordan elimination: a row is reduced and scaled, its column is cleared, and it is
-- inserted by its pivot.
use Rattle.std.specs.Prelude.{◌≡◌, ℕ, ◌+◌, ◌-◌, ◌*◌, ◌<◌, ◌≤◌, List, [], ◌∷◌, ◌++◌, length}
use Rattle.linear_algebra.specs.Modular.{IsCongruent}
use Rattle.linear_algebra.specs.Rows.{entry, row, pivot, IsRow, IsInSpan}

-- d is the row r less the multiple of v that makes it 0 at place t, where v is 1
pub record IsCleared (p width t : ℕ) (v r d : List ℕ) : Type 0 where
  pub is_row : IsRow p width d
  pub each : (j : ℕ) → IsCongruent p (entry d j) (entry r j + (p - entry r t) * entry v j)

-- s is v up to members of the span of E and a factor, is 0 at E's pivots, and its first entry that is not 0
-- is 1
pub record IsPrepared (p width : ℕ) (E : List (List ℕ)) (v s : List ℕ) : Type 0 where
  pub is_row : IsRow p width s
  pub zero_at_pivots : (i : ℕ) → i < length E → entry s (pivot (row E i)) ≡ 0
  pub monic : pivot s < width → entry s (pivot s) ≡ 1
  pub made : IsInSpan p (E ++ v ∷ []) (entry s)
  pub gives_back : IsInSpan p (E ++ s ∷ []) (entry v)

-- each row of D is the row of E, cleared at t
pub record AreCleared (p width t : ℕ) (v : List ℕ) (E D : List (List ℕ)) : Type 0 where
  pub same_length : length D ≡ length E
  pub each : (i : ℕ) → i < length E → IsCleared p width t v (row E i) (row D i)

-- pos is the number of rows whose pivot is below t
pub record IsPlace (t pos : ℕ) (E : List (List ℕ)) : Type 0 where
  pub within : pos ≤ length E
  pub below : (i : ℕ) → i < pos → pivot (row E i) < t
  pub above : (i : ℕ) → pos ≤ i → i < length E → t < pivot (row E i)

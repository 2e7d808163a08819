-- Linear independence and rank.
use Rattle.std.specs.Prelude.{◌≡◌, ℕ, ◌<◌, List, length}
use Rattle.linear_algebra.specs.Modular.{IsCongruent}
use Rattle.linear_algebra.specs.Rows.{IsEchelonOf}
use Rattle.linear_algebra.specs.Kernels.{IsInKernel}

-- only the combination of the rows with all coefficients 0 is 0
abbrev pub IsIndependent : ℕ → List (List ℕ) → Type 0
IsIndependent p rows = (u : ℕ → ℕ) → IsInKernel p rows u → (i : ℕ) → i < length rows → IsCongruent p (u i) 0

-- n is the length of the reduced echelon list of the span of the rows
abbrev pub IsRankOf : ℕ → ℕ → List (List ℕ) → ℕ → Type 0
IsRankOf p width rows n = (e : List (List ℕ)) × IsEchelonOf p width rows e × (n ≡ length e)

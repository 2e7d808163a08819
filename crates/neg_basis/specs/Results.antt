-- Negative standard bases (Green, LNM 1828).
use Rattle.std.specs.Prelude.{◌≡◌, ℕ, ◌<◌, List, length, map, take}
use Rattle.linear_algebra.specs.Rows.{entry, row, pivot, IsInSpan, AreInSpan, IsEchelonOf}
use Rattle.fp_rows.specs.Values.{MatrixValue}
use Rattle.neg_basis.specs.Maps.{IsInSubmodule}
use Rattle.neg_basis.specs.Bases.{IsBasis, IsReducedMultiple}
use Rattle.neg_basis.specs.Origins.{origin_at, source, IsBefore, IsOrigin, IsChosenRightly}
use Rattle.neg_basis.specs.declared.origin.Origin.{Origin}

-- what contracts see of a basis
pub record BasisValue : Type 0 where
  pub p : ℕ
  pub width : ℕ
  pub vectors : List (List ℕ)
  pub origins : List Origin

-- the vectors with their heads, their origins and the reduced echelon list of their span beside them
pub record IsStore (p width : ℕ) (vectors : List (List ℕ)) (heads : List ℕ) (origins : List Origin)
    (reduced : MatrixValue) : Type 0 where
  pub basis : IsBasis p width vectors
  pub heads_are : heads ≡ map pivot vectors
  pub origins_count : length origins ≡ length vectors
  pub steps : (i : ℕ) → i < length vectors → IsBefore (origin_at origins i) i
  pub reduced_field : reduced.p ≡ p
  pub reduced_width : reduced.width ≡ width
  pub reduced_is : IsEchelonOf p width vectors reduced.rows

-- the negative standard basis of the submodule that the generators generate under the first m maps
pub record IsNegBasisOf (p width m : ℕ) (image : ℕ → (ℕ → ℕ) → ℕ → ℕ) (gens vectors : List (List ℕ))
    (origins : List Origin) : Type 0 where
  pub basis : IsBasis p width vectors
  pub origins_count : length origins ≡ length vectors
  pub named : (i : ℕ) → i < length vectors → IsOrigin (length gens) m (origin_at origins i) i
  pub made : (i : ℕ) → i < length vectors
      → IsReducedMultiple p (take i vectors) (source image gens vectors (origin_at origins i)) (row vectors i)
  pub generators : AreInSpan p vectors gens
  pub images : (k i : ℕ) → k < m → i < length vectors → IsInSpan p vectors (image k (entry (row vectors i)))
  pub spanned : (v : ℕ → ℕ) → IsInSpan p vectors v → IsInSubmodule p m image gens v
  pub spans : (v : ℕ → ℕ) → IsInSubmodule p m image gens v → IsInSpan p vectors v
  pub chosen : (r : ℕ) → r < length gens → IsChosenRightly p m image gens origins r

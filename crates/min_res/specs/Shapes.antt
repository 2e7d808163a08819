-- The sizes that a stored stage keeps.
use Rattle.std.specs.Prelude.{◌≡◌, ℕ, ◌<◌, length, slice_index, MatchOption}
use Rattle.min_res.specs.Values.{BoundaryValue, StageValue}

-- the positions are places of the source, and the tables have its sizes
pub record HasBoundaryShape (B : BoundaryValue) : Type 0 where
  pub inside : (i : ℕ) → i < length B.positions → slice_index B.positions i < length B.source.rows
  pub matrix_prime : B.matrix.p ≡ B.source.p
  pub matrix_width : B.matrix.width ≡ B.source.width
  pub sections_prime : B.sections.p ≡ B.source.p
  pub sections_width : B.sections.width ≡ length B.matrix.rows
  pub section_count : length B.sections.rows ≡ length B.source.rows

-- the kernel has the width of the boundary's matrix
pub record AgreesWith (s : StageValue) (B : BoundaryValue) : Type 0 where
  pub rank : s.rank ≡ length B.positions
  pub prime : s.kernel.p ≡ B.source.p
  pub width : s.kernel.width ≡ length B.matrix.rows
  pub degree : 0 < s.degree

-- a stage of degree 0 has no boundary, and each other has one
abbrev pub HasStageShape : StageValue → Type 0
HasStageShape s = MatchOption s.boundary (s.degree ≡ 0) (AgreesWith s)

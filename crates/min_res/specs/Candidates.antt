-- The parts of a stage that comes from outside, as they are kept while they are checked.
use Rattle.std.specs.Prelude.{◌≡◌, ℕ, ◌*◌, ◌≤◌, ◌^◌, length}
use Rattle.fp_rows.specs.Values.{MatrixValue, RowValue}
use Rattle.p_groups.specs.PGroups.{PGroup, order_of, prime_of}
use Rattle.group_algebra.specs.Coordinates.{layer_coordinates}
use Rattle.resolution_stages.specs.Checks.{StageParts}
use Rattle.resolution_stages.specs.Computed.{IsMatrixOf}
use Rattle.min_res.specs.Stages.{rank_of}
use Rattle.min_res.specs.Values.{BoundaryValue, StageValue}
use Rattle.min_res.specs.Defined.{IsStageAt, kernel_value}
use Rattle.min_res.specs.RecordChecks.{MayFollow, new_boundary}

-- the parts that a boundary and the list of a kernel show
abbrev pub kept_parts : BoundaryValue → MatrixValue → StageParts
kept_parts B kernel = record { positions = B.positions; kernel = kernel.rows; sections = B.sections.rows }

-- B has the positions and the sections of Q, and the matrix of the boundary from their free module to that
-- of the stage of degree d
pub record IsBoundaryBy (G : PGroup) (d : ℕ) (Q : StageParts) (B : BoundaryValue) : Type 0 where
  pub source_is : B.source ≡ kernel_value G d
  pub positions_are : B.positions ≡ Q.positions
  pub matrix_prime : B.matrix.p ≡ prime_of G
  pub matrix_width : B.matrix.width ≡ order_of G * rank_of G d
  pub matrix_is : IsMatrixOf (layer_coordinates G (length Q.positions)) (layer_coordinates G (rank_of G d))
      (new_boundary G d Q) B.matrix.rows
  pub sections_are : B.sections ≡ record {
    p = prime_of G;
    width = order_of G * length Q.positions;
    rows = Q.sections;
  }

-- the rows of the kernel of Q
abbrev pub kernel_by : PGroup → StageParts → MatrixValue
kernel_by G Q = record { p = prime_of G; width = order_of G * length Q.positions; rows = Q.kernel }

-- parts that may follow the stage of degree d, with the matrix of their boundary
pub record IsCandidate (G : PGroup) (d : ℕ) (B : BoundaryValue) (kernel : MatrixValue) : Type 0 where
  pub may_follow : MayFollow G d (kept_parts B kernel)
  pub boundary_is : IsBoundaryBy G d (kept_parts B kernel) B
  pub kernel_is : kernel ≡ kernel_by G (kept_parts B kernel)
  pub small : order_of G * length B.positions ≤ 2 ^ 28

-- a row in which values of the boundary are written
pub record IsValueRow (G : PGroup) (d : ℕ) (v : RowValue) : Type 0 where
  pub prime : v.p ≡ prime_of G
  pub count : length v.entries ≡ order_of G * rank_of G d

-- Q are parts modulo p of a free module of at most 2^28 entries, and they may follow the stage s
pub record MayComeNext (G : PGroup) (s : StageValue) (p : ℕ) (Q : StageParts) : Type 0 where
  pub last : IsStageAt G s.degree s
  pub prime : p ≡ prime_of G
  pub follows : MayFollow G s.degree Q
  pub small : order_of G * length Q.positions ≤ 2 ^ 28

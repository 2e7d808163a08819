-- What the next map of a lift is made of: the rows of a boundary, a section and the map before.
use Rattle.std.specs.Prelude.{◌≡◌, ℕ, ◌*◌, ◌^◌, ◌<◌, List, length}
use Rattle.group_modules.specs.Module.{times}
use Rattle.group_modules.specs.Field.{residue}
use Rattle.group_modules.specs.Tables.{unit}
use Rattle.linear_algebra.specs.Choices.{rows_at}
use Rattle.linear_algebra.specs.Rows.{row, IsRow}
use Rattle.resolution_stages.specs.Chain.{section_row}
use Rattle.fp_rows.specs.Values.{MatrixValue}
use Rattle.p_groups.specs.PGroups.{PGroup, largest_residue, group, order_of, prime_of}
use Rattle.group_algebra.specs.Coordinates.{free_module}
use Rattle.min_res.specs.Values.{StageValue, boundary_of}

-- row i of the boundary of a stage
abbrev pub image_row : StageValue → ℕ → List ℕ
image_row s i = row (rows_at (boundary_of s).source.rows (boundary_of s).positions) i

-- the section of a stage at x, by its table
abbrev pub section_of : StageValue → List ℕ → List ℕ
section_of s x =
    section_row s.kernel.p s.kernel.width (boundary_of s).source.rows (boundary_of s).sections.rows x

-- c times the element 1 of the group algebra
abbrev pub multiple_of_one : (G : PGroup) → ℕ → (free_module G 1).of
multiple_of_one G c =
    times (free_module G 1).add (free_module G 1).zero c (unit (largest_residue G) (group G) 1 (residue 0 0))

-- the rows of a map to a free module of this rank, and the stages between which the map after it goes
pub record FitTogether (G : PGroup) (rank : ℕ) (before : MatrixValue) (source target : StageValue)
    : Type 0 where
  pub source_above_zero : 0 < source.degree
  pub target_above_zero : 0 < target.degree
  pub before_prime : before.p ≡ prime_of G
  pub source_prime : source.kernel.p ≡ prime_of G
  pub target_prime : target.kernel.p ≡ prime_of G
  pub before_width : before.width ≡ order_of G * rank
  pub target_width : (boundary_of target).source.width ≡ order_of G * rank
  pub fits : order_of G * length before.rows < 2 ^ 64
  pub images : (i : ℕ) → i < source.rank
      → IsRow (prime_of G) (order_of G * length before.rows) (image_row source i)

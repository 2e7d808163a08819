-- What is written of a stage.
use Rattle.std.specs.Prelude.{◌≡◌, ℕ, ◌+◌, ◌<◌, ◌≤◌, ◌^◌, length, slice_index}
use Rattle.resolution_stages.specs.Checks.{StageParts}
use Rattle.limits.specs.declared.TheConstants.{GREATEST_DEGREE}
use Rattle.p_groups.specs.PGroups.{PGroup}
use Rattle.min_res.specs.Values.{StageValue, boundary_of}
use Rattle.min_res.specs.Defined.{IsStageAt}
use Rattle.stage_records.specs.declared.TheConstants.{GREATEST_WIDTH}

-- the parts of a stage of a degree above 0
abbrev pub parts_of_stage : StageValue → StageParts
parts_of_stage s = record {
  positions = (boundary_of s).positions;
  kernel = s.kernel.rows;
  sections = (boundary_of s).sections.rows;
}

-- it is the stage of its degree of some p-group
pub record IsSomeStage (s : StageValue) : Type 0 where
  pub group : PGroup
  pub is_stage : IsStageAt group s.degree s

-- the numbers of a stage have room in their fields
pub record HasSizes (s : StageValue) : Type 0 where
  pub above_zero : 0 < s.degree
  pub degree : s.degree ≤ GREATEST_DEGREE
  pub width : s.kernel.width ≤ GREATEST_WIDTH
  pub rank : s.rank ≤ GREATEST_WIDTH
  pub count : s.rank ≡ length (boundary_of s).positions
  pub positions : (i : ℕ) → i < s.rank → slice_index (boundary_of s).positions i + 1 < 2 ^ 16
  pub sections : length (boundary_of s).sections.rows ≡ length (boundary_of s).source.rows

-- The sizes and entries of the views of a record.
use Rattle.std.specs.Prelude.{◌≡◌, ℕ, ◌-◌, ◌*◌, ◌<◌, ◌≤◌, List, length}
use Rattle.linear_algebra.specs.Rows.{entry}
use Rattle.stage_records.specs.declared.TheConstants.{GREATEST_WIDTH}
use Rattle.stage_records.specs.Readings.{numbers_in}

-- the bytes of b positions and of rows of this width, those of the list before among them; all entries are
-- below p
pub record AreViews (p b previous width : ℕ) (positions kernel sections : List ℕ) : Type 0 where
  pub position_size : length positions ≡ 2 * b
  pub counted_from_one : (i : ℕ) → i < b → 1 ≤ entry (numbers_in b positions) i
  pub room : previous ≤ width
  pub small : width ≤ GREATEST_WIDTH
  pub kernel_size : length kernel ≡ (width - previous) * width
  pub section_size : length sections ≡ previous * width
  pub kernel_below : (i : ℕ) → i < length kernel → entry kernel i < p
  pub section_below : (i : ℕ) → i < length sections → entry sections i < p

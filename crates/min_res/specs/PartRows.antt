-- The lists of rows among the parts of a stage.
use Rattle.std.specs.Prelude.{ℕ, List}
use Rattle.resolution_stages.specs.Checks.{StageParts}
use Rattle.min_res.specs.declared.part_lists.PartRows.{PartRows}
use Rattle.min_res.specs.declared.part_lists.PartRows.TheVariants.{Kernel, Sections}

-- the rows of this list
abbrev pub part_rows : StageParts → PartRows → List (List ℕ)
part_rows Q Kernel = Q.kernel
part_rows Q Sections = Q.sections

-- The stages of the group of two elements, worked by hand: each kernel is spanned by g - 1, whose section
-- is 1.
use Rattle.std.specs.Prelude.{ℕ, List, [], ◌∷◌}
use Rattle.std.specs.declared.option.Option.{Option}
use Rattle.std.specs.declared.option.Option.TheVariants.{Some}
use Rattle.resolution_stages.specs.Checks.{StageParts}
use Rattle.stage_records.specs.Records.{record_bytes}

abbrev pub two_elements : StageParts
two_elements = record { positions = 0 ∷ []; kernel = (0 ∷ 1 ∷ []) ∷ []; sections = (1 ∷ 0 ∷ []) ∷ [] }

abbrev pub two_records : ℕ → Option (List ℕ)
two_records d = Some (record_bytes 2 d two_elements)

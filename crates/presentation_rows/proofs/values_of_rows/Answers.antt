use Rattle.presentation_rows.proofs.RowValues.{value-of-combination}
use Rattle.presentation_rows.proofs.values_of_rows.Goals as goal

pub returns : goal.returns
returns c q mul gs ms values V u w h = value-of-combination q mul gs ms values V u w h

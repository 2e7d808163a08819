use Rattle.presentation_rows.proofs.UnitRows.{echelon-of-units}
use Rattle.presentation_rows.proofs.echelon_of_unit_rows.Goals as goal

pub returns : goal.returns
returns c p n rows basis one U e = rw (echelon-of-units U p basis one e) U

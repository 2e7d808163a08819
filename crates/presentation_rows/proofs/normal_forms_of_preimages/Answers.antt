use Rattle.presentation_rows.proofs.NormalFormRows.{normal-form-of}
use Rattle.presentation_rows.proofs.normal_forms_of_preimages.Goals as goal

pub returns : goal.returns
returns c q d mul gs ms values kernel w u one M V K P =
    normal-form-of q d mul gs ms values kernel one M V K w u P

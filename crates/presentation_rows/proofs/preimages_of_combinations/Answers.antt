use Rattle.presentation_rows.proofs.NormalFormRows.{preimage-of-combination}
use Rattle.presentation_rows.proofs.preimages_of_combinations.Goals as goal

pub returns : goal.returns
returns c p n values kernel rows us w u one U P K r s h = preimage-of-combination one U P K w u r s h

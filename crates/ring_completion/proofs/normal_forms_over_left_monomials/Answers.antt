use Rattle.ring_completion.proofs.Results.{separates-left, normal-form-of-list}
use Rattle.ring_completion.proofs.normal_forms_over_left_monomials.Goals as goal

pub returns : goal.returns
returns c q n G gs rs ms values kernel w u field p R C V K P =
    normal-form-of-list q n field G gs p rs R ms values kernel C.some
    (separates-left q n field G gs p rs R ms C) V K w u P

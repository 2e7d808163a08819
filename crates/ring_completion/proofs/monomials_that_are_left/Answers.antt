use Rattle.ring_completion.proofs.Results.{left-of-list, form-of-list, separates-reached}
use Rattle.ring_completion.proofs.monomials_that_are_left.Goals as goal

pub returns-clause-left : goal.returns-clause-left
returns-clause-left c q n G gs rs ms products forms rows reduced field p R C P F K e =
    left-of-list q n field G gs p rs R ms products forms rows reduced C.some
    (separates-reached q n field G gs p rs R ms C) C.each P F K e

pub returns-clause-forms : goal.returns-clause-forms
returns-clause-forms c q n G gs rs ms products forms rows reduced field p R C P F K e =
    form-of-list q n field G gs p rs R ms products forms rows reduced C.some
    (separates-reached q n field G gs p rs R ms C) C.each P F K e

use Rattle.std.proofs.Common.{[]}
use Rattle.ring_completion.proofs.Results.{separates-left, nothing-leads, relations-of-list}
use Rattle.ring_completion.proofs.relations_of_left_monomials.Goals as goal

pub returns : goal.returns
returns c q n G gs rs ms values kernel field p R C V K =
    relations-of-list q n field G gs p rs R ms values kernel C.some
    (separates-left q n field G gs p rs R ms C) V K [] (nothing-leads q n field G gs p rs R ms C)

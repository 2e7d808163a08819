use Rattle.ring_completion.proofs.Results.{separates-candidates, candidate-pivots, relations-of-list}
use Rattle.ring_completion.proofs.relations_of_candidates.Goals as goal

pub returns : goal.returns
returns c q n G gs rs ms products forms rows reduced values kernel field p R C e V K =
    relations-of-list q n field G gs p rs R ms values kernel C.candidates.some
    (separates-candidates q n field G gs p rs R ms C.candidates) V K reduced
    (candidate-pivots q n field G gs p rs R ms products forms rows reduced C e)

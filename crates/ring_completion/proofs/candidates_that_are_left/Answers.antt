use Rattle.ring_completion.proofs.Results.{left-candidates}
use Rattle.ring_completion.proofs.candidates_that_are_left.Goals as goal

pub returns : goal.returns
returns c q n G gs rs ms products forms rows reduced field p R C e =
    left-candidates q n field G gs p rs R ms products forms rows reduced C e

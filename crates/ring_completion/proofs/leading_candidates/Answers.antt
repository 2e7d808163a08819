use Rattle.ring_completion.proofs.Results.{candidate-pivots}
use Rattle.ring_completion.proofs.leading_candidates.Goals as goal

pub returns : goal.returns
returns c q n k G gs rs ms products forms rows reduced field p R C e l =
    candidate-pivots q n field G gs p rs R ms products forms rows reduced C e k l

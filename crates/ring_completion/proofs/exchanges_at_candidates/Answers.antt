use Rattle.graded_algebra.specs.Vectors.{IsOfDegree}
use Rattle.ring_completion.proofs.Results.{free}
use Rattle.ring_completion.proofs.Skipped.{exchange-at-candidate}
use Rattle.ring_completion.proofs.exchanges_at_candidates.Goals as goal

pub returns : goal.returns
returns c q n i j e G gs rs ms products forms s field p R C P F b I J X d l =
    exchange-at-candidate q field G.mul (IsOfDegree q G) G.laws gs p (free q n field G gs p rs R) n rs R ms C
    products P forms F i j e s b I J X d l

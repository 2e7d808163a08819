use Rattle.graded_algebra.specs.Vectors.{Vector, IsOfDegree, algebra}
use Rattle.ring_completion.proofs.Choosing.{are-candidates}
use Rattle.ring_completion.proofs.Results.{free}
use Rattle.ring_completion.proofs.candidates_by_quotients.Goals as goal

pub returns : goal.returns
returns c q n G gs rs ms field p R S each all =
    are-candidates q (Vector q) (algebra q G) (IsOfDegree q G) G.laws gs field p (free q n field G gs p rs R)
    n rs R ms S each all

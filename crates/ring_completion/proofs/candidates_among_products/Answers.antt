use Rattle.graded_algebra.specs.Vectors.{Vector, IsOfDegree, algebra}
use Rattle.ring_completion.proofs.Reached.{candidates-among}
use Rattle.ring_completion.proofs.Results.{free}
use Rattle.ring_completion.proofs.candidates_among_products.Goals as goal

pub returns : goal.returns
returns c q n G gs rs ms cs field p R C S each all =
    candidates-among q (Vector q) (algebra q G) (IsOfDegree q G) G.laws gs field p
    (free q n field G gs p rs R) n rs R ms cs C S each all

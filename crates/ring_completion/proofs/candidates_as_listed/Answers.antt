use Rattle.graded_algebra.specs.Vectors.{Vector, IsOfDegree, algebra}
use Rattle.ring_completion.proofs.ListedCandidates.{listed-candidates}
use Rattle.ring_completion.proofs.Results.{free}
use Rattle.ring_completion.proofs.candidates_as_listed.Goals as goal

pub returns : goal.returns
returns c q n G gs rs lists field p R S =
    listed-candidates q (Vector q) (algebra q G) (IsOfDegree q G) G.laws gs field p
    (free q n field G gs p rs R) n rs R lists S

use Rattle.graded_algebra.specs.Vectors.{Vector, IsOfDegree, algebra}
use Rattle.ring_completion.proofs.Quotients.{candidate-if-standard}
use Rattle.ring_completion.proofs.standard_monomials_are_candidates.Goals as goal

pub returns : goal.returns
returns c q d G gs ms C m M s = candidate-if-standard q (Vector q) (algebra q G) (IsOfDegree q G) G.laws gs d
    ms C m M s

use Rattle.graded_algebra.specs.Vectors.{Vector, IsOfDegree, algebra}
use Rattle.graded_algebra.proofs.Division.{standard-quotient}
use Rattle.graded_algebra.proofs.quotients_of_standard_monomials.Goals as goal

pub returns : goal.returns
returns c q e d G gs a m E M h s = standard-quotient q (Vector q) (algebra q G)
    (IsOfDegree q G) G.laws gs e d a m E M h s

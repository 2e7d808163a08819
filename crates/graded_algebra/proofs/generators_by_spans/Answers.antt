use Rattle.graded_algebra.specs.Vectors.{Vector, IsOfDegree, algebra, basis}
use Rattle.graded_algebra.proofs.Spans.{span-generators}
use Rattle.graded_algebra.proofs.VectorLemmas.{is-basis}
use Rattle.graded_algebra.proofs.generators_by_spans.Goals as goal

pub returns : goal.returns
returns c q n G gs h = span-generators q (Vector q) (algebra q G) (IsOfDegree q G) G.laws (basis q G)
    (is-basis q G) n gs h

use Rattle.graded_algebra.specs.Vectors.{Vector, vectors}
use Rattle.graded_algebra.proofs.VectorLemmas.{vector-space}
use Rattle.graded_algebra.proofs.Unique.{generators-unique}
use Rattle.graded_algebra.proofs.one_list_of_generators.Goals as goal

pub returns : goal.returns
returns c q n mul basis gs hs a b = generators-unique q (Vector q) (vectors q mul)
    (vector-space q mul) basis n gs hs a b

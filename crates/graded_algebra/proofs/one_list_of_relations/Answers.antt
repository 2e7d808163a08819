use Rattle.graded_algebra.specs.Vectors.{Vector, vectors}
use Rattle.graded_algebra.proofs.VectorLemmas.{vector-space}
use Rattle.graded_algebra.proofs.Unique.{relations-unique}
use Rattle.graded_algebra.proofs.one_list_of_relations.Goals as goal

pub returns : goal.returns
returns c q n mul gs rs ss a b = relations-unique q (Vector q) (vectors q mul)
    (vector-space q mul) gs n rs ss a b

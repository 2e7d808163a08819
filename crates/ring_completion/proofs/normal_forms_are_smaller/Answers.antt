use Rattle.graded_algebra.specs.Vectors.{Vector, vectors}
use Rattle.graded_algebra.proofs.VectorLemmas.{vector-space}
use Rattle.ring_completion.proofs.Smaller.{smaller-terms, greater-joined}
use Rattle.ring_completion.proofs.normal_forms_are_smaller.Goals as goal

pub returns-clause-smaller : goal.returns-clause-smaller
returns-clause-smaller c q e x mul gs ns k f M K s F =
    smaller-terms q (Vector q) (vectors q mul) (vector-space q mul) gs e ns M x k K f F s

pub returns-clause-ordered : goal.returns-clause-ordered
returns-clause-ordered c a m n g = greater-joined a m n g

use Rattle.graded_algebra.specs.Vectors.{Vector, vectors}
use Rattle.graded_algebra.proofs.VectorLemmas.{vector-space}
use Rattle.graded_algebra.proofs.NormalForms.{normal-form-unique}
use Rattle.graded_algebra.proofs.one_normal_form.Goals as goal

pub returns : goal.returns
returns c q d mul gs ms M v f g a b = normal-form-unique q (Vector q) (vectors q mul)
    (vector-space q mul) gs d ms M v f g a b

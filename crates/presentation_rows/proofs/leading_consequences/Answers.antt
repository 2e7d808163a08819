use Rattle.graded_algebra.specs.Vectors.{Vector, vectors}
use Rattle.graded_algebra.proofs.Relations.{defining}
use Rattle.presentation_rows.proofs.MultipleRows.{consequence-pivots}
use Rattle.presentation_rows.proofs.leading_consequences.Goals as goal

pub returns : goal.returns
returns c q n d k mul gs rs ms rows multiples one h M R E l =
    consequence-pivots q d (Vector q) (vectors q mul) gs rs ms rows multiples
    (λ r o. (defining q (Vector q) (vectors q mul) gs n rs h r o).vanishes.over) M R E one k l

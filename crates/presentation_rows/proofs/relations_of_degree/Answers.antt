use Rattle.std.proofs.Common.{suc, refl}
use Rattle.graded_algebra.specs.Vectors.{Vector, vectors}
use Rattle.graded_algebra.proofs.Relations.{defining}
use Rattle.presentation_rows.specs.Pivots.{new_relations}
use Rattle.presentation_rows.proofs.MultipleRows.{consequence-pivots}
use Rattle.presentation_rows.proofs.NewRelations.{relations-from}
use Rattle.presentation_rows.proofs.relations_of_degree.Goals as goal

pub returns : goal.returns
returns c q n mul gs rs ms values kernel rows multiples one h M V K R E = (
  rs,
  new_relations (suc n) ms multiples kernel,
  ms,
  h,
  M,
  relations-from q (suc n) mul gs rs ms values kernel multiples one M V K
      (consequence-pivots q (suc n) (Vector q) (vectors q mul) gs rs ms rows multiples
      (λ r o. (defining q (Vector q) (vectors q mul) gs n rs h r o).vanishes.over) M R E one),
  refl,
)

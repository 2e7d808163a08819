use Rattle.std.proofs.Common.{map, refl}
use Rattle.graded_algebra.specs.Vectors.{unit}
use Rattle.presentation_rows.proofs.NewGenerators.{chosen-units}
use Rattle.presentation_rows.proofs.generators_of_degree.Goals as goal

pub returns : goal.returns
returns c q d n mul basis gs ms values span rows positions G M b V E U g = (
  gs,
  ms,
  map (unit q) positions,
  G,
  M,
  rw b (chosen-units q n mul gs ms values span rows V E U positions g),
  refl,
)

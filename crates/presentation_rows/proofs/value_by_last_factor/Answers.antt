use Rattle.graded_algebra.specs.Vectors.{vectors}
use Rattle.presentation_rows.proofs.LastFactor.{value-by-factor}
use Rattle.presentation_rows.proofs.value_by_last_factor.Goals as goal

pub returns : goal.returns
returns c q d i mul gs g m n M t h e = value-by-factor q d i (vectors q mul) gs g m n M t h e

use Rattle.graded_algebra.proofs.Presented.{presented-vectors}
use Rattle.graded_algebra.proofs.presentation.Goals as goal

pub returns : goal.returns
returns c = presented-vectors

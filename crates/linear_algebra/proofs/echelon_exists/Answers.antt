use Rattle.linear_algebra.proofs.Existence.{echelon}
use Rattle.linear_algebra.proofs.echelon_exists.Goals as goal

pub returns : goal.returns
returns c p width rows F M = echelon F rows M

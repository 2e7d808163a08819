use Rattle.linear_algebra.proofs.EchelonLists.{same_echelon}
use Rattle.linear_algebra.proofs.echelon_is_unique.Goals as goal

pub returns : goal.returns
returns c p width rows others l a b e f s t = same_echelon l rows others a b e f s t

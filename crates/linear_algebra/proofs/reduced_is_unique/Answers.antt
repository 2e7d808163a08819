use Rattle.linear_algebra.proofs.Laws as laws
use Rattle.linear_algebra.proofs.reduced_is_unique.Goals as goal

pub returns : goal.returns
returns c p width rows v w x l e a b r s = laws.reduced_is_one rows v w x l e a b r s

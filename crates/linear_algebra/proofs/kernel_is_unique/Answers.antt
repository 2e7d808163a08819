use Rattle.linear_algebra.proofs.Laws as laws
use Rattle.linear_algebra.proofs.kernel_is_unique.Goals as goal

pub returns : goal.returns
returns c p rows K L l a b = laws.kernel_is_one rows K L l a b

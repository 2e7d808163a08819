use Rattle.linear_algebra.proofs.Laws as laws
use Rattle.linear_algebra.proofs.kernel_exists.Goals as goal

pub returns : goal.returns
returns c p width rows F M = laws.kernel_exists rows F M

use Rattle.linear_algebra.proofs.Laws as laws
use Rattle.linear_algebra.proofs.greedy_exists.Goals as goal

pub returns : goal.returns
returns c p width s t F S T = laws.greedy_exists s t F S T

use Rattle.std.proofs.Common.{length}
use Rattle.linear_algebra.proofs.GreedyLemmas.{greedy_is_one}
use Rattle.linear_algebra.proofs.greedy_is_unique.Goals as goal

pub returns : goal.returns
returns c p s t xs ys a b = greedy_is_one p s t (length s) xs ys a b

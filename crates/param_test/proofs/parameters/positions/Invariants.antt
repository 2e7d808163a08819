use Rattle.std.proofs.Common.{◌≡◌, take}
use Rattle.param_test.proofs.parameters.positions.Given as goal

abbrev pub invariant-loop-k : goal.invariant-loop-k
invariant-loop-k l = l.positions ≡ take l.k-index l.tuple

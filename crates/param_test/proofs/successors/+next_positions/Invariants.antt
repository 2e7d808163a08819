use Rattle.std.proofs.Common.{length}
use Rattle.param_test.proofs.successors.+next_positions.Given as goal

abbrev pub decreases-next_positions : goal.decreases-next_positions
decreases-next_positions l = length l.a.now

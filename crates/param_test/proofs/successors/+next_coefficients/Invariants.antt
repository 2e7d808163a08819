use Rattle.std.proofs.Common.{length}
use Rattle.param_test.proofs.successors.+next_coefficients.Given as goal

abbrev pub decreases-next_coefficients : goal.decreases-next_coefficients
decreases-next_coefficients l = length l.c.now

use Rattle.std.proofs.Common.{ℕ, ◌+◌, ◌/◌, arith}
use Rattle.param_test.proofs.Later.{none-before}
use Rattle.param_test.proofs.degrees.least_degree.Goals as goal

pub loop-below-preserved : goal.loop-below-preserved
loop-below-preserved c = record {
  apart = omega arith;
  high = c.loop-below.invariant.high;
  all = c.loop-below.invariant.all;
  before = λ (d : ℕ) low l.
      none-before c.args.ring.now c.requires.variables c.args.fs.now c.requires.over d
      ((c.loop-below.below + c.loop-below.least) / 2) l
      (c.in_ok-all_in_ideal.ensures.no c.if-branch.false);
}

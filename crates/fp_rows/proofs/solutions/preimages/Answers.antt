use mathlib.Core.Path.{subst}
use Rattle.linear_algebra.specs.Choices.{ArePreimages}
use Rattle.linear_algebra.proofs.Laws.{kernel_is_one}
use Rattle.fp_rows.proofs.solutions.preimages.Goals as goal

pub returns-clause-rows : goal.returns-clause-rows
returns-clause-rows c = subst (λ K. ArePreimages c.args.m.now.p c.args.m.now.rows K c.args.targets.now.rows
    c.in_ok-rows.rows.rows)
    (kernel_is_one c.args.m.now.rows c.in_ok-s.s.kernel.rows c.args.free.now.rows
    c.in_ok-rows.ensures.above_one c.in_ok-s.ensures.kernel
    c.requires.kernel)
    c.in_ok-rows.ensures.rows

use Rattle.std.proofs.Common.{◌≡◌, length, arith, ap, ◌∙◌}
use Rattle.param_test.specs.Odometers.{run}
use Rattle.param_test.proofs.Dense.{is-run}
use Rattle.param_test.proofs.successors.fill_run.Goals as goal

pub returns : goal.returns
returns c =
    let l : length c.loop-i.a ≡ length c.args.a.now = omega arith in
    is-run c.loop-i.a c.args.from (λ k h. c.loop-i.invariant k (omega arith)) ∙ ap (run c.args.from) l

use Rattle.std.proofs.Common.{◌≡◌, ◌+◌, ◌-◌, ◌≤◌, arith}
use Rattle.std.specs.Prelude.{slice_index}
use Rattle.param_test.specs.Walks.{least}
use Rattle.param_test.proofs.Steps.{least-step}
use Rattle.param_test.proofs.walk.least.Goals as goal

pub loop-i-preserved : goal.loop-i-preserved
loop-i-preserved c =
    let e : least c.args.degrees.now (c.args.from + c.args.k - c.loop-i.i) c.loop-i.i
    ≡ slice_index c.args.degrees.now c.loop-i.i + least c.args.degrees.now
    (c.args.from + c.args.k - (c.loop-i.i + 1)) (c.loop-i.i + 1) =
    least-step c.args.degrees.now c.loop-i.i (c.args.from + c.args.k) (omega arith) in
    let s : slice_index c.args.degrees.now c.loop-i.i ≤ 24 = c.requires.small c.loop-i.i in
    record { small = omega arith; value = omega arith }

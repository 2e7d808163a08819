use Rattle.param_test.proofs.Keeping.{all-kept-more}
use Rattle.param_test.proofs.restriction.keep_all.Goals as goal

pub loop-i-preserved : goal.loop-i-preserved
loop-i-preserved c =
    all-kept-more c.args.gens.now c.args.fs.now c.loop-i.out c.push.new.self c.loop-i.i c.get.result.now
    c.in_ok-keep.field-0
    c.get.ensures c.in_ok-keep.ensures c.loop-i.invariant c.in_ok-push.ensures.ok

-- Each round goes one layer down.
use Rattle.pc_group.proofs.Descent.{none-down, some-down, table-down}
use Rattle.pc_group.proofs.rounds.first_layer.Goals as goal

pub returns-in-Err-clause-outcome : goal.returns-in-Err-clause-outcome
returns-in-Err-clause-outcome c =
    let step = rw c.in-Err.is at c.in_ok-next.ensures in
    some-down c.args.p.now c.gens-n.result c.loop-m.m c.loop-m-test.true c.gens-n.ensures.value
    c.loop-m.invariant.faultless c.in-Err.name step

pub loop-m-preserved : goal.loop-m-preserved
loop-m-preserved c =
    let step = rw c.in-Ok.is at c.in_ok-next.ensures in
    record {
      faultless = none-down c.args.p.now c.gens-n.result c.loop-m.m c.loop-m-test.true c.gens-n.ensures.value
          c.loop-m.invariant.faultless step.0;
      table_is = table-down c.args.p.now c.gens-n.result c.loop-m.m c.loop-m-test.true c.gens-n.ensures.value
          c.in-Ok.next step.1;
    }

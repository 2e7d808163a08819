use Rattle.std.proofs.Common.{◌<◌, arith}
use Rattle.group_table.specs.Tables.{order}
use Rattle.group_table.proofs.WithoutFaults.{first-triple}
use Rattle.group_table.proofs.first_faults.first_not_associative.Goals as goal

pub returns-in-Some : goal.returns-in-Some
returns-in-Some c =
    let first = c.in-Some.ensures in
    let i : c.loop-a.a < order c.args.table.now = omega (arith, c.order-a-end.ensures.value) in
    first-triple c.args.table.now c.loop-a.a c.in-Some.b c.in-Some.c i c.loop-a.invariant first.0 first.1

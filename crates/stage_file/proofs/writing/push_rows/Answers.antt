use Rattle.std.proofs.Common.{arith}
use Rattle.stage_file.proofs.Appended.{rows-step}
use Rattle.stage_file.proofs.writing.push_rows.Goals as goal

pub loop-i-preserved : goal.loop-i-preserved
loop-i-preserved c =
    rows-step _ _ c.args.out.now.items _ c.args.list.now.rows c.loop-i.i c.in_ok-push_row.ensures
    c.loop-i.invariant c.row.ensures.entries
    (omega (arith, c.loop-i-test.true, c.rows-i-end.ensures.count))

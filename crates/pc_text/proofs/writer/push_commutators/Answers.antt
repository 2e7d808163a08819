use Rattle.pc_text.proofs.WriterLemmas.{next_row}
use Rattle.pc_text.proofs.writer.push_commutators.Goals as goal

pub loop-j-preserved : goal.loop-j-preserved
loop-j-preserved c =
    next_row c.args.p.now c.args.text.now.items c.loop-j.text.items c.push_row.new.text.items c.loop-j.j
    c.loop-j.invariant c.in_ok-push_row.ensures

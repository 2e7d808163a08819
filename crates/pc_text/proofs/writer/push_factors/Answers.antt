use Rattle.std.proofs.Common.{get_or, refl}
use Rattle.pc_text.proofs.WriterLemmas.{next_zero, next_piece}
use Rattle.pc_text.proofs.writer.push_factors.Goals as goal

pub loop-k-preserved-then-e-eq0 : goal.loop-k-preserved-then-e-eq0
loop-k-preserved-then-e-eq0 c =
    next_zero c.args.text.now.items c.args.word.now c.loop-k.text.items c.loop-k.k c.loop-k.joined
    c.loop-k.invariant c.loop-k-test.true c.if-e-eq0.true

pub loop-k-preserved : goal.loop-k-preserved
loop-k-preserved c =
    next_piece c.args.text.now.items c.args.word.now c.loop-k.text.items c.push_piece.new.text.items
    c.loop-k.k (get_or c.args.word.now c.loop-k.k 0) c.loop-k.joined
    c.loop-k.invariant c.loop-k-test.true refl c.if-e-eq0.false c.in_ok-push_piece.ensures

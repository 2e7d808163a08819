use Rattle.fp_rows.proofs.ShortLemmas.{byte_one, byte_zero}
use Rattle.fp_rows.proofs.short_row.add_bytes_to_words.Goals as goal
use Rattle.fp_rows.proofs.short_row.add_bytes_to_words.Goals.{then-x-eq1, else-x-eq1}

pub loop-i-preserved : goal.loop-i-preserved
loop-i-preserved c = elim c.if-x-eq1.branch [
  | then-x-eq1 w ↦ rw w.words-is (byte_one w.flip.new.words c.loop-i.words c.args.words.now c.args.s.now
      c.loop-i.i
      c.loop-i.invariant w.if-x-eq1.true w.flip.ensures.here w.flip.ensures.others)
  | else-x-eq1 w ↦ rw w.words-is (byte_zero c.loop-i.words c.args.words.now c.args.s.now c.loop-i.i
      c.loop-i.invariant (c.requires.below c.loop-i.i c.loop-i-test.true) w.if-x-eq1.false)
]

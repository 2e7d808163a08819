use Rattle.std.proofs.Common.{◌+◌, arith, ap, ◌∙◌}
use Rattle.fp_rows.specs.Places.{place}
use Rattle.fp_rows.proofs.PlaceLemmas.{added_more}
use Rattle.fp_rows.proofs.words.add_shifted_places.Goals as goal

pub loop-k-preserved : goal.loop-k-preserved
loop-k-preserved c = added_more c.loop-k.dst c.args.dst.now
    (λ j. place c.args.src.now (c.args.from + j)) c.args.len c.loop-k.k c.lowest.result
    (omega (arith, c.loop-k-test.true, c.loop-k.auto.dst)) c.loop-k.invariant
    (λ b l m. c.lowest.ensures.kept b l (omega arith) ∙ c.word_from.ensures b l
    ∙ ap (place c.args.src.now) (omega arith))
    (λ b l m. c.lowest.ensures.zero b l (omega arith))

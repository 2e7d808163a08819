use Rattle.std.proofs.Common.{◌+◌, ◌≤◌, length, arith}
use Rattle.fp_rows.specs.Numbers.{numbers_of}
use Rattle.fp_rows.proofs.PartLemmas.{more_added, none_added_more}
use Rattle.fp_rows.proofs.cells.add_at.Goals as goal
use Rattle.fp_rows.proofs.cells.add_at.Goals.{then-len-done-lt64, else-len-done-lt64, then-word-ne0}
use Rattle.fp_rows.proofs.cells.add_at.Goals.{else-word-ne0}

pub loop-done-preserved : goal.loop-done-preserved
loop-done-preserved c =
    let within : c.loop-done.done + c.if-len-done-lt64.count ≤ length (numbers_of c.args.r) =
    elim c.if-len-done-lt64.branch [
      | then-len-done-lt64 w ↦ omega arith
      | else-len-done-lt64 w ↦ omega arith
    ] in
    elim c.if-word-ne0.branch [
      | then-word-ne0 w ↦ rw w.b-is (more_added c.args.at c.loop-done.done c.if-len-done-lt64.count
          c.word-word.result (numbers_of c.args.r) c.args.b.now c.loop-done.b w.add_word.new.self
          c.loop-done.invariant within c.word-word.ensures.bits w.add_word.ensures.same_length
          w.add_word.ensures.inside w.add_word.ensures.before w.add_word.ensures.after)
      | else-word-ne0 w ↦ rw w.b-is (none_added_more c.args.at c.loop-done.done c.if-len-done-lt64.count
          c.word-word.result (numbers_of c.args.r) c.args.b.now c.loop-done.b
          c.loop-done.invariant within c.word-word.ensures.bits w.if-word-ne0.false
          (let n = c.loop-done.invariant.same_length in
          λ j l. c.len-len.ensures.below j l) (c.requires.within))
    ]

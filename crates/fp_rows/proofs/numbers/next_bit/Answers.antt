use Rattle.std.proofs.Common.{◌+◌, ◌≤◌, ◌<◌, w64, length, arith}
use Rattle.std.specs.Int.{trailing_zeros}
use Rattle.fp_rows.specs.Bits.{bits_of}
use Rattle.fp_rows.proofs.PartLemmas.{place_in_word, next_in_word, no_place_so_far}
use Rattle.fp_rows.proofs.numbers.next_bit.Goals as goal
use Rattle.fp_rows.proofs.numbers.next_bit.Goals.{then-len-done-lt64, else-len-done-lt64}

pub overflow_add-result : goal.overflow_add-result
overflow_add-result c =
    let within : c.loop-done.done + c.if-len-done-lt64.count ≤ length (bits_of c.args.b) =
    elim c.if-len-done-lt64.branch [
      | then-len-done-lt64 w ↦ omega arith
      | else-len-done-lt64 w ↦ omega arith
    ] in
    let t : trailing_zeros w64 c.word-word.result < c.if-len-done-lt64.count =
    place_in_word c.word-word.result c.if-len-done-lt64.count c.word-word.type_inv c.if-word-ne0.true
    c.word-word.ensures.rest in
    omega (arith, within, t, c.len.ensures.count, c.len.type_inv)

pub returns-then-word-ne0 : goal.returns-then-word-ne0
returns-then-word-ne0 c =
    let within : c.loop-done.done + c.if-len-done-lt64.count ≤ length (bits_of c.args.b) =
    elim c.if-len-done-lt64.branch [
      | then-len-done-lt64 w ↦ omega arith
      | else-len-done-lt64 w ↦ omega arith
    ] in
    next_in_word (bits_of c.args.b) c.args.from c.loop-done.done c.if-len-done-lt64.count c.word-word.result
    c.loop-done.invariant.after within c.word-word.type_inv c.if-word-ne0.true c.word-word.ensures.bits
    c.word-word.ensures.rest c.loop-done.invariant.zero

pub loop-done-preserved : goal.loop-done-preserved
loop-done-preserved c =
    let within : c.loop-done.done + c.if-len-done-lt64.count ≤ length (bits_of c.args.b) =
    elim c.if-len-done-lt64.branch [
      | then-len-done-lt64 w ↦ omega arith
      | else-len-done-lt64 w ↦ omega arith
    ] in
    record {
      after = omega (arith, c.loop-done.invariant.after);
      within = within;
      zero = no_place_so_far (bits_of c.args.b) c.args.from c.loop-done.done c.if-len-done-lt64.count
          c.word-word.result c.word-word.ensures.bits c.if-word-ne0.false c.loop-done.invariant.zero;
    }

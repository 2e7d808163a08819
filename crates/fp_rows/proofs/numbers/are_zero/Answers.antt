use Rattle.std.proofs.Common.{◌+◌, ◌≤◌, length, arith, ◌∙◌}
use Rattle.fp_rows.specs.Bits.{bits_of}
use Rattle.fp_rows.proofs.PartLemmas.{no_bits, zero_so_far}
use Rattle.fp_rows.proofs.numbers.are_zero.Goals as goal
use Rattle.fp_rows.proofs.numbers.are_zero.Goals.{then-len-done-lt64, else-len-done-lt64}

pub loop-done-preserved : goal.loop-done-preserved
loop-done-preserved c =
    let within : c.loop-done.done + c.if-len-done-lt64.count ≤ length (bits_of c.args.b) =
    elim c.if-len-done-lt64.branch [
      | then-len-done-lt64 w ↦ omega arith
      | else-len-done-lt64 w ↦ omega arith
    ] in
    record {
      within = within;
      zero = zero_so_far (bits_of c.args.b) c.loop-done.done c.if-len-done-lt64.count c.word.result
          c.word.ensures.bits c.if-word-ne0.false c.loop-done.invariant.zero;
    }

pub returns-then-word-ne0 : goal.returns-then-word-ne0
returns-then-word-ne0 c =
    let within : c.loop-done.done + c.if-len-done-lt64.count ≤ length (bits_of c.args.b) =
    elim c.if-len-done-lt64.branch [
      | then-len-done-lt64 w ↦ omega arith
      | else-len-done-lt64 w ↦ omega arith
    ] in (
      λ e. cc,
      λ z. absurd (c.if-word-ne0.true (no_bits c.word.result c.if-len-done-lt64.count c.word.type_inv
          (λ b l. c.word.ensures.bits b l ∙ z (c.loop-done.done + b) (omega (arith, l, within)))
          c.word.ensures.rest)),
    )

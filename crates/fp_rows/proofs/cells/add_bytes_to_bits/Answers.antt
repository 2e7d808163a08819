use Rattle.std.proofs.Common.{arith}
use Rattle.linear_algebra.proofs.RowLemmas.{is_add_multiple}
use Rattle.fp_rows.proofs.cells.add_bytes_to_bits.Goals as goal

pub returns : goal.returns
returns c = is_add_multiple 2 1 c.args.b.now c.args.s.now c.loop-i.b c.requires.same_length
    c.loop-i.invariant.same_length
    (λ j l. c.loop-i.invariant.done j (omega (arith, l, c.requires.same_length, c.loop-i-test.false)))

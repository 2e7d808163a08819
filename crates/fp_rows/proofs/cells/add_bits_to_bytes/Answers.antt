use Rattle.std.proofs.Common.{arith}
use Rattle.group_table.specs.Prime.{prime_value}
use Rattle.linear_algebra.proofs.RowLemmas.{is_add_multiple}
use Rattle.fp_rows.specs.Bits.{bits_of}
use Rattle.fp_rows.proofs.cells.add_bits_to_bytes.Goals as goal

pub returns : goal.returns
returns c = is_add_multiple (prime_value c.args.p) c.args.c c.args.v.now
    (bits_of c.args.s) c.loop-i.v c.requires.same_length c.loop-i.auto.v
    (λ j l. c.loop-i.invariant.done j (omega (arith, l, c.loop-i-test.false, c.loop-i.auto.v)))

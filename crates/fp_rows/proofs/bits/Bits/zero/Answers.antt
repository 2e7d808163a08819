use Rattle.fp_rows.proofs.BitLemmas.{zero_bits, zero_packed}
use Rattle.fp_rows.proofs.bits.Bits.zero.Goals as goal

pub invariant_of-result : goal.invariant_of-result
invariant_of-result c = rw c.in_ok-words.ensures (zero_packed c.args.len c.ranges.len.fits)

pub returns : goal.returns
returns c = rw c.in_ok-words.ensures (zero_bits c.args.len)

use Rattle.fp_rows.proofs.BitLemmas.{copied_bits}
use Rattle.fp_rows.proofs.bits.Bits.copy_of.Goals as goal

pub returns : goal.returns
returns c = copied_bits c.args.r.words.now c.in_ok-words.words.items c.args.r.from c.args.r.len
    c.in_ok-words.ensures.copied

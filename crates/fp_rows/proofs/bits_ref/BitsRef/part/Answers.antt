use Rattle.std.proofs.Common.{arith}
use Rattle.fp_rows.proofs.PlaceLemmas.{length-places}
use Rattle.fp_rows.proofs.BitLemmas.{part_bits}
use Rattle.fp_rows.proofs.bits_ref.BitsRef.part.Goals as goal

pub overflow_add-result : goal.overflow_add-result
overflow_add-result c = omega (
  arith,
  c.requires,
  c.args.self.now.small,
  length-places c.args.self.now.words.now c.args.self.now.from c.args.self.now.len,
)

pub invariant_of-result : goal.invariant_of-result
invariant_of-result c = record {
  within = omega (
    arith,
    c.requires,
    c.args.self.now.within,
    length-places c.args.self.now.words.now c.args.self.now.from c.args.self.now.len,
  );
  small = omega (
    arith,
    c.requires,
    c.args.self.now.small,
    length-places c.args.self.now.words.now c.args.self.now.from c.args.self.now.len,
  );
}

pub returns : goal.returns
returns c = part_bits c.args.self.now.words.now c.args.self.now.from c.args.self.now.len c.args.from
    c.args.len (omega (
      arith,
      c.requires,
      length-places c.args.self.now.words.now c.args.self.now.from c.args.self.now.len,
    ))

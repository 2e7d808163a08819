use Rattle.std.proofs.Common.{arith, sym, ◌∙◌}
use Rattle.fp_rows.proofs.PlaceLemmas.{length-places, entry-places}
use Rattle.fp_rows.proofs.bits_ref.BitsRef.get.Goals as goal

pub overflow_add-self : goal.overflow_add-self
overflow_add-self c = omega (
  arith,
  c.requires,
  c.args.self.now.small,
  length-places c.args.self.now.words.now c.args.self.now.from c.args.self.now.len,
)

pub place_at-requires : goal.place_at-requires
place_at-requires c = omega (
  arith,
  c.requires,
  c.args.self.now.within,
  length-places c.args.self.now.words.now c.args.self.now.from c.args.self.now.len,
)

pub returns-clause-value : goal.returns-clause-value
returns-clause-value c = c.place_at.ensures.value
    ∙ sym (entry-places c.args.self.now.words.now c.args.self.now.from c.args.self.now.len c.args.i
    (omega (
      arith,
      c.requires,
      length-places c.args.self.now.words.now c.args.self.now.from
          c.args.self.now.len,
    )))

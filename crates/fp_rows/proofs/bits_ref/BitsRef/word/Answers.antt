use Rattle.std.proofs.Common.{◌≡◌, ◌+◌, arith, ap, sym, ◌∙◌}
use Rattle.fp_rows.specs.Places.{place}
use Rattle.fp_rows.proofs.PlaceLemmas.{length-places, entry-places}
use Rattle.fp_rows.proofs.bits_ref.BitsRef.word.Goals as goal

pub overflow_add-self : goal.overflow_add-self
overflow_add-self c = omega (
  arith,
  c.requires.within,
  c.args.self.now.small,
  length-places c.args.self.now.words.now c.args.self.now.from c.args.self.now.len,
)

pub returns-clause-bits : goal.returns-clause-bits
returns-clause-bits c = λ b l. c.bits_from.ensures.kept b (omega (arith, l, c.requires.count)) l
    ∙ ap (place c.args.self.now.words.now)
    (let e : c.args.self.now.from + c.args.from + b ≡ c.args.self.now.from +
    (c.args.from + b) = omega arith in e)
    ∙ sym (entry-places c.args.self.now.words.now c.args.self.now.from c.args.self.now.len (c.args.from + b)
    (omega (
      arith,
      l,
      c.requires.within,
      length-places c.args.self.now.words.now c.args.self.now.from c.args.self.now.len,
    )))

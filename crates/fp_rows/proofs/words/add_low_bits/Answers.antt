use Rattle.std.proofs.Common.{◌+◌, ◌-◌, ◌%◌, arith, ap, sym, ◌∙◌}
use Rattle.fp_rows.specs.Places.{place}
use Rattle.fp_rows.proofs.PlaceLemmas.{nothing_past}
use Rattle.fp_rows.proofs.words.add_low_bits.Goals as goal

pub returns-clause-inside : goal.returns-clause-inside
returns-clause-inside c = λ j a b. c.add_bits.ensures.sums j a
    ∙ ap (λ z. (place c.args.words.now j + z) % 2)
    (c.lowest.ensures.kept (j - c.args.at) (omega (arith, c.requires.count)) (omega arith))

pub returns-clause-after : goal.returns-clause-after
returns-clause-after c = λ j a. c.add_bits.ensures.sums j (omega arith)
    ∙ sym (nothing_past c.args.words.now c.lowest.result c.args.len j (j - c.args.at)
    (c.lowest.ensures.small c.requires.count) (omega arith))

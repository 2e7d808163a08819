use Rattle.std.proofs.Common.{◌<◌, [], ◌∷◌, get_or, length, arith, ap, subst, ◌∙◌}
use Rattle.polynomial_reader.proofs.ValueLemmas.{factor-room, factor-step}
use Rattle.polynomial_reader.proofs.values.term_value.Goals as goal

pub mul-requires-clause-degrees : goal.mul-requires-clause-degrees
mul-requires-clause-degrees c =
    let room = factor-room c.args.gens.now.degrees c.args.t.now.factors c.loop-x.x-index c.x-item.result
    (subst (λ xs. c.loop-x.x-index < length xs) c.factors-x-items.ensures c.loop-x-test.true)
    (c.x-item.is ∙ ap (λ xs. get_or xs c.loop-x.x-index c.x-item.result) c.factors-x-items.ensures)
    c.requires.small in
    omega (arith, room, c.loop-x.invariant.degree_is, c.in_ok-power.ensures.degree_is)

pub loop-x-preserved : goal.loop-x-preserved
loop-x-preserved c =
    factor-step c.args.gens.now (record {
      scalar = c.args.t.now.numeral;
      monomial = [];
    } ∷ []) c.args.t.now.factors c.loop-x.x-index
    c.x-item.result c.loop-x.out c.in_ok-power.field-0 c.in_ok-out-2.out
    (subst (λ xs. c.loop-x.x-index < length xs) c.factors-x-items.ensures c.loop-x-test.true)
    (c.x-item.is ∙ ap (λ xs. get_or xs c.loop-x.x-index c.x-item.result) c.factors-x-items.ensures)
    c.loop-x.invariant c.in_ok-power.ensures c.in_ok-out-2.ensures

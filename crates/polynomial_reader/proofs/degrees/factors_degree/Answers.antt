use Rattle.std.proofs.Common.{◌+◌, ◌*◌, get_or, arith, ap, ap₂, subst, sym, ◌∙◌}
use Rattle.polynomial_reader.specs.Reading.{IsFactorOf}
use Rattle.polynomial_reader.proofs.DegreeLemmas.{degree-more, factor-small}
use Rattle.polynomial_reader.proofs.degrees.factors_degree.Goals as goal

pub loop-x-preserved : goal.loop-x-preserved
loop-x-preserved c = record {
  value = ap₂ (λ a b. a + b) c.loop-x.invariant.value
      (ap₂ (λ a b. a * b) (c.degree.ensures.value
      ∙ ap (λ i. get_or c.args.gens.now.degrees i 0) c.generator.ensures)
      (c.from.ensures ∙ c.exponent.ensures))
      ∙ sym (degree-more c.args.gens.now.degrees c.args.factors.now c.loop-x.x-index c.x-item.result
      c.loop-x-test.true c.x-item.is);
  small =
      let x = subst (IsFactorOf c.args.gens.now.degrees) (sym c.x-item.is)
      (c.requires.each c.loop-x.x-index c.x-item.result c.loop-x-test.true) in
      omega (
        arith,
        factor-small c.degree.result c.from.result c.degree.ensures.high
            (omega (arith, x.high, c.from.ensures, c.exponent.ensures)),
        c.loop-x.invariant.small,
      );
}

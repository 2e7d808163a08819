use Rattle.polynomial_texts.specs.Readings.{term_degree}
use Rattle.polynomial_reader.proofs.ValueLemmas.{value-step}
use Rattle.polynomial_reader.proofs.values.value.Goals as goal

pub loop-t-preserved : goal.loop-t-preserved
loop-t-preserved c =
    value-step c.args.gens.now c.args.degree
    (term_degree c.args.gens.now.degrees c.t-item.result) c.args.terms.now c.loop-t.t-index
    c.t-item.result c.loop-t.out c.in_ok-value.value c.in_ok-out.out
    c.loop-t-test.true c.t-item.is c.loop-t.invariant c.in_ok-value.ensures c.in_ok-out.ensures

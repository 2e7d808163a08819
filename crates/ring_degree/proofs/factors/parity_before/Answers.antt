use Rattle.std.proofs.Common.{arith, ◌∙◌}
use Rattle.ring_degree.proofs.Multiplying.{parity-step}
use Rattle.ring_degree.proofs.factors.parity_before.Goals as goal

pub loop-k-preserved : goal.loop-k-preserved
loop-k-preserved c = parity-step c.args.gens.now.degrees c.args.s.now c.loop-k.k c.loop-k.sum c.degree.result
    c.from.result (omega arith) c.loop-k.invariant c.degree.ensures.value (c.from.ensures
    ∙ c.exponent.ensures)

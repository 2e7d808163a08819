use Rattle.std.proofs.Common.{◌-◌, arith, ◌∙◌}
use Rattle.gc_poly.proofs.Joining.{swaps-end, degree-end, exchange-step}
use Rattle.gc_poly.proofs.products.exchanges.Goals as goal

pub loop-i-init : goal.loop-i-init
loop-i-init c = record {
  exchanges = swaps-end c.args.gens.now.degrees c.args.a.now c.args.b.now c.len-i.result
      c.len-i.ensures.value;
  left = degree-end c.args.gens.now.degrees c.args.a.now c.len-i.result c.len-i.ensures.value;
}

pub loop-i-preserved : goal.loop-i-preserved
loop-i-preserved c =
    let both = exchange-step c.args.gens.now.degrees c.args.a.now c.args.b.now
    (c.loop-i.i - 1) c.loop-i.i c.loop-i.exchanged c.loop-i.after c.degree-degree.result
    c.from-in-loop-i.result c.from.result
    (omega arith) (omega arith) c.loop-i.invariant.exchanges c.loop-i.invariant.left
    c.degree-degree.ensures.value
    (c.from-in-loop-i.ensures ∙ c.exponent-in-loop-i.ensures) (c.from.ensures ∙ c.exponent.ensures) in
    record { exchanges = both.0; left = both.1 }

use Rattle.std.proofs.Common.{◌≡◌, length, take, arith, ap, length-take}
use Rattle.gc_poly.specs.Generators.{Generators}
use Rattle.cohomology_degree.proofs.Lists.{ordered-take}
use Rattle.cohomology_degree.proofs.generators.gens_over.Goals as goal

pub push-requires-clause-few : goal.push-requires-clause-few
push-requires-clause-few c =
    let e : length c.loop-i.copy.degrees ≡ length (take c.loop-i.i c.args.gens.now.degrees) =
    ap (λ (g : Generators). length g.degrees) c.loop-i.invariant in
    omega (arith, e, length-take c.loop-i.i c.args.gens.now.degrees)

pub push-requires-clause-order : goal.push-requires-clause-order
push-requires-clause-order c =
    ordered-take c.args.gens.now.degrees c.loop-i.copy.degrees c.loop-i.i c.degree.result
    (ap (λ (g : Generators). g.degrees) c.loop-i.invariant)
    (omega arith) c.degree.ensures.value c.degree.ensures.valid

use Rattle.std.proofs.Common.{arith}
use Rattle.gc_poly.specs.Polynomials.{IsOverGenerators}
use Rattle.gc_poly.proofs.Substituting.{image-start, image-at, image-step, room}
use Rattle.gc_poly.proofs.substitution.image_of.Goals as goal

pub loop-i-init : goal.loop-i-init
loop-i-init c = image-start c.args.to.now c.args.images.now c.in_ok-out.out c.in_ok-out.ensures

pub times_power-requires-clause-right : goal.times_power-requires-clause-right
times_power-requires-clause-right c = image-at
    (IsOverGenerators c.args.to.now) c.args.images.now c.loop-i.i c.get.result.now c.requires.over
    c.get.ensures

pub times_power-requires-clause-degrees : goal.times_power-requires-clause-degrees
times_power-requires-clause-degrees c =
    omega (
      arith,
      c.loop-i.invariant.degree_is,
      room c.args.images.now c.args.m.now c.loop-i.i c.exponent.result c.get.result.now
          (omega arith) c.get.ensures c.exponent.ensures c.requires.small,
    )

pub loop-i-preserved : goal.loop-i-preserved
loop-i-preserved c =
    image-step c.args.to.now c.args.images.now c.args.m.now c.loop-i.i c.exponent.result c.get.result.now
    c.loop-i.out c.in_ok-out-2.out (omega arith) c.get.ensures c.exponent.ensures
    c.loop-i.invariant c.in_ok-out-2.ensures

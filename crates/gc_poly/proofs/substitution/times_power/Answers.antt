use Rattle.std.proofs.Common.{◌+◌, ◌≤◌, arith}
use Rattle.std.proofs.Math.Nat.{mul-le-mul_left}
use Rattle.gc_poly.proofs.Substituting.{power-step}
use Rattle.gc_poly.proofs.substitution.times_power.Goals as goal

pub mul-requires-clause-degrees : goal.mul-requires-clause-degrees
mul-requires-clause-degrees c =
    let l : c.loop-k._k + 1 ≤ c.args.exponent = omega arith in
    omega (arith, mul-le-mul_left c.args.g.now.degree l, c.loop-k.invariant.degree_is)

pub loop-k-preserved : goal.loop-k-preserved
loop-k-preserved c = power-step c.args.gens.now c.args.f.degree 0 c.loop-k._k c.args.f.terms c.args.g.now
    c.loop-k.out c.in_ok-out.out c.loop-k.invariant c.in_ok-out.ensures

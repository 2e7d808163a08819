use Rattle.gc_poly.specs.Generators.{greatest}
use Rattle.param_test.proofs.Taking.{IsTaken}
use Rattle.param_test.proofs.restriction.restrict.Given as goal

abbrev pub invariant-loop-i : goal.invariant-loop-i
invariant-loop-i l = IsTaken (greatest l.gens) l.gens.degrees l.m l.i l.exponents.items

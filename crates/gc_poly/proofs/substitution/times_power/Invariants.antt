use Rattle.std.proofs.Common.{◌+◌, ◌*◌}
use Rattle.graded_algebra.specs.Algebras.{powers}
use Rattle.gc_poly.specs.Generators.{greatest}
use Rattle.gc_poly.specs.Polynomials.{IsSumOf}
use Rattle.gc_poly.specs.Substitution.{polynomials}
use Rattle.gc_poly.proofs.substitution.times_power.Given as goal

abbrev pub invariant-loop-k : goal.invariant-loop-k
invariant-loop-k l = IsSumOf l.gens (l.initial.out.degree + l.g.degree * l._k)
    (powers (polynomials (greatest l.gens) l.gens.degrees) 0 l.initial.out.terms
    (record { degree = l.g.degree; class = l.g.terms }) l._k) l.out

use Rattle.std.proofs.Common.{map, take}
use Rattle.graded_polynomials.specs.Monomials.{degree}
use Rattle.graded_algebra.specs.Algebras.{evaluate}
use Rattle.gc_poly.specs.Generators.{greatest}
use Rattle.gc_poly.specs.Polynomials.{IsSumOf}
use Rattle.gc_poly.specs.Substitution.{polynomials, standing}
use Rattle.gc_poly.proofs.substitution.image_of.Given as goal

abbrev pub invariant-loop-i : goal.invariant-loop-i
invariant-loop-i l = IsSumOf l.to (degree (map (λ f. f.degree) l.images) (take l.i l.m))
    (evaluate (polynomials (greatest l.to) l.to.degrees) (standing l.images) (take l.i l.m)) l.out

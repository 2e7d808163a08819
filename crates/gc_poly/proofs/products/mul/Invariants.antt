use Rattle.std.proofs.Common.{◌+◌, take}
use Rattle.graded_polynomials.specs.Polynomials.{product}
use Rattle.gc_poly.specs.Generators.{greatest}
use Rattle.gc_poly.specs.Polynomials.{IsSumOf}
use Rattle.gc_poly.proofs.products.mul.Given as goal

-- the products with the first terms are added
abbrev pub invariant-loop-i : goal.invariant-loop-i
invariant-loop-i l = IsSumOf l.gens (l.a.degree + l.b.degree)
    (product (greatest l.gens) l.gens.degrees (take l.i l.a.terms) l.b.terms) l.out

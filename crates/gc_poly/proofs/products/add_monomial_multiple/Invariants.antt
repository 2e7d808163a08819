use Rattle.std.proofs.Common.{◌++◌, take}
use Rattle.graded_polynomials.specs.Polynomials.{multiple}
use Rattle.gc_poly.specs.Generators.{greatest}
use Rattle.gc_poly.specs.Polynomials.{IsSumOf}
use Rattle.gc_poly.proofs.products.add_monomial_multiple.Given as goal

-- the first terms are multiplied and added
abbrev pub invariant-loop-i : goal.invariant-loop-i
invariant-loop-i l = IsSumOf l.gens l.initial.out.degree
    (l.initial.out.terms ++ multiple (greatest l.gens) l.gens.degrees l.c l.m (take l.i l.f.terms)) l.out

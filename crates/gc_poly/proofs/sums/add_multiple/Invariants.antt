use Rattle.std.proofs.Common.{◌++◌, take}
use Rattle.graded_polynomials.specs.Polynomials.{scaled}
use Rattle.gc_poly.specs.Polynomials.{IsSumOf}
use Rattle.gc_poly.proofs.sums.add_multiple.Given as goal

-- the first terms are added
abbrev pub invariant-loop-i : goal.invariant-loop-i
invariant-loop-i l = IsSumOf l.gens l.initial.out.degree
    (l.initial.out.terms ++ scaled l.c (take l.i l.f.terms)) l.out

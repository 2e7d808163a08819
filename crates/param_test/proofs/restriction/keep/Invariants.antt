use Rattle.std.proofs.Common.{◌≡◌, take}
use Rattle.gc_poly.specs.Generators.{greatest}
use Rattle.param_test.specs.Variables.{kept_terms}
use Rattle.param_test.proofs.restriction.keep.Given as goal

abbrev pub invariant-loop-i : goal.invariant-loop-i
invariant-loop-i l =
    l.out
    ≡ record { degree = l.f.degree; terms = kept_terms (greatest l.gens) l.gens.degrees (take l.i l.f.terms) }

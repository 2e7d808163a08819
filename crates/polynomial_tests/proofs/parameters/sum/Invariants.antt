use Rattle.std.proofs.Common.{◌≡◌}
use Rattle.gc_poly.specs.Polynomials.{IsOverGenerators}
use Rattle.polynomial_tests.proofs.parameters.sum.Given as goal

abbrev pub invariant-loop-i : goal.invariant-loop-i
invariant-loop-i l = record {
  over : IsOverGenerators l.gens l.f;
  degree : l.f.degree ≡ l.degree;
}

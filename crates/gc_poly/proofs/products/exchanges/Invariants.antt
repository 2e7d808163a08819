use Rattle.std.proofs.Common.{◌≡◌, ◌%◌, drop}
use Rattle.graded_polynomials.specs.Monomials.{swaps, degree}
use Rattle.gc_poly.proofs.products.exchanges.Given as goal

-- the exchanges among the generators from i on, and the degree of what the left factor has there
abbrev pub invariant-loop-i : goal.invariant-loop-i
invariant-loop-i l = record {
  exchanges : l.exchanged ≡ swaps (drop l.i l.gens.degrees) (drop l.i l.a) (drop l.i l.b) % 2;
  left : l.after ≡ degree (drop l.i l.gens.degrees) (drop l.i l.a) % 2;
}

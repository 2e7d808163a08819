use Rattle.std.proofs.Common.{◌≡◌, take}
use Rattle.graded_polynomials.specs.Monomials.{joined}
use Rattle.gc_poly.proofs.mono.Mono.joined.Given as goal

abbrev pub invariant-loop-i : goal.invariant-loop-i
invariant-loop-i l = l.exponents.items ≡ take l.i (joined l.self l.other)

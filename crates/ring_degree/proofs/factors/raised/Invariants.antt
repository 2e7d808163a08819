use Rattle.std.proofs.Common.{◌≡◌, take}
use Rattle.graded_polynomials.specs.Monomials.{joined}
use Rattle.graded_polynomials.specs.Texts.{power}
use Rattle.ring_degree.proofs.factors.raised.Given as goal

-- the first exponents
abbrev pub invariant-loop-k : goal.invariant-loop-k
invariant-loop-k l = l.exponents.items ≡ take l.k (joined (power l.i 1) l.s)

use Rattle.std.proofs.Common.{◌≡◌, ◌%◌, take}
use Rattle.graded_polynomials.specs.Monomials.{degree}
use Rattle.ring_degree.proofs.factors.parity_before.Given as goal

-- the first factors
abbrev pub invariant-loop-k : goal.invariant-loop-k
invariant-loop-k l = l.sum ≡ degree (take l.k l.gens.degrees) l.s % 2

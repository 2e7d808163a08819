-- The loop stops at an exponent that is not 0.
use Rattle.std.proofs.Common.{arith, ap, ◌∙◌}
use Rattle.graded_polynomials.specs.Monomials.{exponent}
use Rattle.gc_poly.proofs.Trimming.{trimmed-take}
use Rattle.gc_poly.proofs.mono.trimmed_len.Goals as goal

pub returns-else-exponents-len-eq0-clause-trimmed : goal.returns-else-exponents-len-eq0-clause-trimmed
returns-else-exponents-len-eq0-clause-trimmed c =
    trimmed-take c.args.exponents.now c.loop-len.len c.loop-len.invariant.within
    (λ k e z. c.if-exponents-len-eq0.false (ap (exponent c.args.exponents.now) (omega (arith, e)) ∙ z))

use Rattle.std.proofs.Common.{◌<◌, arith}
use Rattle.limits.specs.declared.TheConstants.{GREATEST_DEGREE}
use Rattle.polynomial_reader.proofs.DegreeLemmas.{first-at}
use Rattle.polynomial_reader.proofs.degrees.first_high.Goals as goal

pub returns-then-e-gt-GREATEST_DEGREE-clause-some : goal.returns-then-e-gt-GREATEST_DEGREE-clause-some
returns-then-e-gt-GREATEST_DEGREE-clause-some c =
    first-at (λ e. GREATEST_DEGREE < e) c.args.degrees.now c.loop-e.e-index
    (omega arith) c.if-e-gt-GREATEST_DEGREE.true
    (λ k l p. omega (arith, c.loop-e.invariant k l))

use Rattle.std.proofs.Common.{◌≢◌, arith}
use Rattle.polynomial_reader.proofs.DegreeLemmas.{first-at}
use Rattle.polynomial_reader.proofs.degrees.first_other.Goals as goal

pub returns-then-e-d-clause-some : goal.returns-then-e-d-clause-some
returns-then-e-d-clause-some c = first-at (λ k. k ≢ c.args.d) c.args.degrees.now c.loop-e.e-index
    (omega arith) c.if-e-d.true
    (λ k l p. p (c.loop-e.invariant k l))

use Rattle.std.proofs.Common.{[]}
use Rattle.graded_polynomials.proofs.Exponents.{same-exponents}
use Rattle.ring_present.proofs.ring_parts.one.Goals as goal

pub returns : goal.returns
returns c = same-exponents c.in_ok-one.one [] c.in_ok-one.ensures.trimmed tt c.in_ok-one.ensures.exponents

use Rattle.graded_polynomials.proofs.Stored.{polynomial-unique}
use Rattle.graded_polynomials.proofs.one_stored_polynomial.Goals as goal

pub returns : goal.returns
returns c = polynomial-unique

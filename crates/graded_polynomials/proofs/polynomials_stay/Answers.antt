use Rattle.graded_polynomials.proofs.MoreGenerators.{terms-more, polynomial-more}
use Rattle.graded_polynomials.proofs.polynomials_stay.Goals as goal

pub returns-clause-sum : goal.returns-clause-sum
returns-clause-sum c = terms-more

pub returns-clause-stored : goal.returns-clause-stored
returns-clause-stored c = polynomial-more

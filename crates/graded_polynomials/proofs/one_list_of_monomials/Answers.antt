use Rattle.graded_polynomials.proofs.MonomialLists.{monomials-unique}
use Rattle.graded_polynomials.proofs.one_list_of_monomials.Goals as goal

pub returns : goal.returns
returns c = monomials-unique

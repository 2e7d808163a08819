use Rattle.std.proofs.Common.{◌<◌}
use Rattle.std.proofs.lemmas.List.Elements.{recursion_from_All}
use Rattle.graded_polynomials.specs.AllMonomials.{all_monomials}
use Rattle.graded_polynomials.proofs.AllMonomials.{all-monomials}
use Rattle.graded_polynomials.proofs.a_list_of_monomials.Goals as goal

pub returns : goal.returns
returns c q ds p d = (all_monomials q ds d, all-monomials q ds (recursion_from_All (λ e. 0 < e) ds p) d)

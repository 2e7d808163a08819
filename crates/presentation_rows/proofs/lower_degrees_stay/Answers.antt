use Rattle.presentation_rows.proofs.MoreMonomials.{monomials-stay, values-stay}
use Rattle.presentation_rows.proofs.lower_degrees_stay.Goals as goal

pub returns-clause-monomials : goal.returns-clause-monomials
returns-clause-monomials c q d ds es ms h M = monomials-stay q d ds es ms h M

pub returns-clause-values : goal.returns-clause-values
returns-clause-values c q d mul gs new ms values M V = values-stay q d mul gs new ms values M V

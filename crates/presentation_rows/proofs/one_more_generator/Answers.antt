use Rattle.presentation_rows.proofs.MoreMonomials.{monomials-with-last, values-with-last}
use Rattle.presentation_rows.proofs.one_more_generator.Goals as goal

pub returns-clause-monomials : goal.returns-clause-monomials
returns-clause-monomials c q d ds ms p pos M = monomials-with-last q d ds ms p pos M

pub returns-clause-values : goal.returns-clause-values
returns-clause-values c q mul gs g ms values w M V e h = values-with-last q mul gs g ms values w M V e h

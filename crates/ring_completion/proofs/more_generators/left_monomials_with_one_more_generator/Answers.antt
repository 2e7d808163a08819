use Rattle.ring_completion.proofs.Results.{left-and-last, values-and-last}
use Rattle.ring_completion.proofs.more_generators.left_monomials_with_one_more_generator.Goals as goal

pub returns-clause-monomials : goal.returns-clause-monomials
returns-clause-monomials c q n G gs g rs ms field p R d C = left-and-last q n field G gs p rs R g ms d C

pub returns-clause-values : goal.returns-clause-values
returns-clause-values c q n G gs g rs ms values w field p R d C V e h =
    values-and-last q n field G gs p rs R g ms values w d C V e h

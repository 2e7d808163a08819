use Rattle.ring_completion.proofs.Results.{separates-left, standard-of-list, all-standard}
use Rattle.ring_completion.proofs.standard_left_monomials.Goals as goal

pub returns-clause-pivots : goal.returns-clause-pivots
returns-clause-pivots c q n k G gs rs ms values kernel field p R C V K l =
    standard-of-list q n field G gs p rs R ms values kernel C.some
    (separates-left q n field G gs p rs R ms C) V K k l

pub returns-clause-all : goal.returns-clause-all
returns-clause-all c q n G gs rs ms values kernel field p R C V K m M s =
    all-standard q n field G gs p rs R ms values kernel C.some (separates-left q n field G gs p rs R ms C)
    V K m M s

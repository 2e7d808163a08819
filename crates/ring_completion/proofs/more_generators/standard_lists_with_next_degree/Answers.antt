use Rattle.std.proofs.Common.{◌++◌}
use Rattle.graded_algebra.specs.Vectors.{algebra}
use Rattle.ring_completion.proofs.GrownLists.{lists-grow}
use Rattle.ring_completion.proofs.Results.{separates-left, standard-of-list, all-standard}
use Rattle.ring_completion.proofs.more_generators.standard_lists_with_next_degree.Goals as goal

pub returns : goal.returns
returns c q n G gs new rs lists ms values kernel field p above count S R C V K =
    lists-grow q (algebra q G) gs new n above lists count S ms kernel C.some
    (standard-of-list q n field G (gs ++ new) p rs R ms values kernel C.some
    (separates-left q n field G (gs ++ new) p rs R ms C) V K)
    (all-standard q n field G (gs ++ new) p rs R ms values kernel C.some
    (separates-left q n field G (gs ++ new) p rs R ms C) V K)

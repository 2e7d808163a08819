use Rattle.subgroup_list.proofs.Choosing.{IsBasisSoFar}
use Rattle.subgroup_list.proofs.bases.basis_and_images.Given as goal

abbrev pub invariant-loop-x : goal.invariant-loop-x
invariant-loop-x l = IsBasisSoFar l.g l.members l.basis.items l.images.items l.x-index

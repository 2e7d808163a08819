use Rattle.std.proofs.Common.{[], ◌∷◌, ◌++◌, length}
use Rattle.param_test.specs.Walks.{Stands}
use Rattle.param_test.specs.Parameters.{Passes}
use Rattle.param_test.proofs.Heights.{remains}
use Rattle.param_test.proofs.walk.search_degree.Given as goal

abbrev pub invariant-loop-left : goal.invariant-loop-left
invariant-loop-left l = Stands l.degrees l.r (Passes l.table) l.sum l.pre.items l.next l.left

abbrev pub decreases-loop-left : goal.decreases-loop-left
decreases-loop-left l = remains (length l.degrees) l.r (l.pre.items ++ l.next ∷ [])

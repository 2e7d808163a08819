use Rattle.std.proofs.Common.{[], ◌∷◌}
use Rattle.param_test.specs.Parameters.{Passes}
use Rattle.param_test.specs.Walks.{IsAt}
use Rattle.param_test.proofs.parameters.search.Given as goal

abbrev pub invariant-loop-sum : goal.invariant-loop-sum
invariant-loop-sum l = IsAt l.degrees.items l.r (Passes l.table) l.sum (0 ∷ []) l.left

use Rattle.std.proofs.Common.{◌≡◌, take}
use Rattle.ring_completion.specs.Left.{without_pivots}
use Rattle.ring_degree.proofs.left.without_pivots.Given as goal

-- what is left of the first places
abbrev pub invariant-loop-k : goal.invariant-loop-k
invariant-loop-k l = l.left ≡ without_pivots l.e.rows 0 (take l.k l.list)

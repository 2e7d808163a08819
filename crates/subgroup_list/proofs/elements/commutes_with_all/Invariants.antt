use Rattle.std.proofs.Common.{ℕ, ◌<◌, get_or}
use Rattle.elementary_subgroups.specs.Cliques.{Commutes}
use Rattle.subgroup_list.proofs.elements.commutes_with_all.Given as goal

abbrev pub invariant-loop-y : goal.invariant-loop-y
invariant-loop-y l = (k : ℕ) → k < l.y-index → Commutes l.g l.x (get_or l.ys k 0)

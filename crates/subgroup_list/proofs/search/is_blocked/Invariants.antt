use Rattle.std.proofs.Common.{ℕ, ◌<◌, get_or}
use Rattle.elementary_subgroups.specs.Cliques.{CommutesWithAll}
use Rattle.subgroup_list.proofs.search.is_blocked.Given as goal

abbrev pub invariant-loop-x : goal.invariant-loop-x
invariant-loop-x l = (k : ℕ) → k < l.x-index → CommutesWithAll l.g (get_or l.barred k 0) l.free → ⊥

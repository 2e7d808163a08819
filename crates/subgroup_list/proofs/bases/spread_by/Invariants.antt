use Rattle.std.proofs.Common.{◌≡◌}
use Rattle.subgroup_list.specs.Choosing.{spread}
use Rattle.subgroup_list.proofs.bases.spread_by.Given as goal

abbrev pub invariant-loop-k : goal.invariant-loop-k
invariant-loop-k l = l.v.items ≡ spread l.g l.ys l.x l.k

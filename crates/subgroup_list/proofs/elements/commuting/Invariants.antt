use Rattle.std.proofs.Common.{◌≡◌, take}
use Rattle.std.specs.Prelude.{filter}
use Rattle.elementary_subgroups.specs.Cliques.{commutes_test}
use Rattle.subgroup_list.proofs.elements.commuting.Given as goal

abbrev pub invariant-loop-y : goal.invariant-loop-y
invariant-loop-y l = l.v.items ≡ filter (commutes_test l.g l.x) (take l.y-index l.ys)

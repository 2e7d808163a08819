use Rattle.std.proofs.Common.{arith}
use Rattle.elementary_subgroups.proofs.Indices.{in_at}
use Rattle.subgroup_list.proofs.elements.commuting.Goals as goal

pub commute-requires-clause-right : goal.commute-requires-clause-right
commute-requires-clause-right c = c.requires.elements _ (in_at c.args.ys.now c.loop-y.y-index 0 (omega arith))

use Rattle.std.proofs.Common.{arith}
use Rattle.elementary_subgroups.proofs.Indices.{in_at}
use Rattle.subgroup_list.proofs.bases.push_products.Goals as goal

pub mul-requires-clause-left : goal.mul-requires-clause-left
mul-requires-clause-left c = c.requires.elements _ (in_at c.args.ys.now c.loop-y.y-index 0 (omega arith))

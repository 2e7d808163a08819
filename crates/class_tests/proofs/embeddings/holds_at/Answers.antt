use Rattle.std.proofs.Common.{sym}
use mathlib.Core.Path.{subst}
use Rattle.group_table.specs.Tables.{GroupTable}
use Rattle.elementary_subgroups.specs.Bases.{IsSubgroupOf}
use Rattle.elementary_subgroups.proofs.Indices.{in_get}
use Rattle.elementary_subgroups.proofs.NumberedLists.{subgroup_in}
use Rattle.class_tests.proofs.embeddings.holds_at.Goals as goal

pub holds_within-requires-clause-subgroup : goal.holds_within-requires-clause-subgroup
holds_within-requires-clause-subgroup g c =
    subst (λ (t : GroupTable). IsSubgroupOf t c.get.result.now) (sym c.in_ok-whole.ensures.group)
    (subgroup_in c.args.group.now c.in_ok-subgroups.subgroups c.get.result.now c.in_ok-subgroups.ensures
    (in_get c.in_ok-subgroups.subgroups c.args.place c.get.result.now c.get.ensures))

use Rattle.std.proofs.Common.{◌≡◌, ℕ, length, ap, ◌∙◌}
use Rattle.group_table.specs.Tables.{GroupTable}
use Rattle.elementary_subgroups.specs.OwnGroups.{elementary_group}
use Rattle.p_groups.specs.PGroups.{PGroup}
use Rattle.chain_lift.proofs.EmbeddingElements.{elementary-is}
use Rattle.class_tests.proofs.embeddings.resolved_within.Goals as goal

pub returns-clause-own : goal.returns-clause-own
returns-clause-own g c =
    let s : ℕ = length c.args.e.now.basis in
    elementary-is c.args.whole.now.group c.in_ok-own.own.group s
    (c.in_ok-own.ensures.group ∙ c.in_ok-table.ensures.table
    ∙ ap (λ (t : GroupTable). elementary_group t.p s)
    (c.as_group.ensures ∙ ap (λ (H : PGroup). H.table) (c.group.ensures ∙ c.algebra.ensures)))

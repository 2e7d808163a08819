use Rattle.std.proofs.Common.{◌∙◌, ap, subst}
use Rattle.std.proofs.lemmas.Result.{IfOk-weaker}
use Rattle.group_table.specs.Tables.{GroupTable}
use Rattle.p_groups.specs.PGroups.{PGroup}
use Rattle.elementary_subgroups.specs.Bases.{IsSubgroupList}
use Rattle.elementary_subgroups.specs.Sets.{IsIn}
use Rattle.elementary_subgroups.proofs.NumberedLists.{subgroups_are_one}
use Rattle.coho_report.proofs.subgroups.subgroup_reports.Goals as goal

pub returns-clause-small : goal.returns-clause-small
returns-clause-small c =
    let G = c.args.res.now.group in
    let same = c.as_group.ensures ∙ ap (λ (G : PGroup). G.table) (c.group.ensures ∙ c.algebra.ensures) in
    let listed = subst (λ (T : GroupTable). IsSubgroupList T c.in_ok-list.list) same c.in_ok-list.ensures in
    IfOk-weaker c.told_of_each.result _ _ (λ v small ss L s h. small s
    (subst (IsIn s) (subgroups_are_one G.table ss c.in_ok-list.list L listed) h)) c.told_of_each.ensures.small

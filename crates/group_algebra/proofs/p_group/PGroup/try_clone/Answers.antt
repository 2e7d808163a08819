use Rattle.std.proofs.Common.{ap, ◌∙◌}
use Rattle.p_groups.proofs.SameTables.{same_table}
use Rattle.group_algebra.proofs.p_group.PGroup.try_clone.Goals as goal

pub returns : goal.returns
returns c = same_table _ _ (c.in_ok-try_clone.ensures ∙ ap (λ g. g.table) c.self.view_is)

use Rattle.elementary_subgroups.proofs.ElementaryGroups.{elementary_is_group}
use Rattle.elementary_subgroups.proofs.elementary_group_is_a_group.Goals as goal

pub returns : goal.returns
returns c p r z = elementary_is_group p r z

use Rattle.elementary_subgroups.proofs.NumberedLists.{subgroups_are_one}
use Rattle.elementary_subgroups.proofs.numbered_list_is_one.Goals as goal

pub returns : goal.returns
returns c G ss ts S T = subgroups_are_one G ss ts S T

use Rattle.elementary_subgroups.proofs.Classes.{list_is_one}
use Rattle.elementary_subgroups.proofs.list_is_one.Goals as goal

pub returns : goal.returns
returns c G ms ns A B = list_is_one G ms ns A B

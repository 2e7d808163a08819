use Rattle.elementary_subgroups.proofs.Indices.{in_get}
use Rattle.elementary_subgroups.proofs.NumberedLists.{subgroup_in}
use Rattle.elementary_subgroups.proofs.listed_are_subgroups.Goals as goal

pub returns : goal.returns
returns c G ss i s S e = subgroup_in G ss s S (in_get ss i s e)

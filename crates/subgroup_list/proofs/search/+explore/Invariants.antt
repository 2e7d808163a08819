use Rattle.std.proofs.Common.{length}
use Rattle.subgroup_list.proofs.search.+explore.Given as goal

abbrev pub decreases-explore : goal.decreases-explore
decreases-explore l = length l.free.now

use Rattle.resolution_stages.proofs.FirstLists as laws
use Rattle.resolution_stages.proofs.first_list_law.Goals as goal

pub returns : goal.returns
returns c n q Γ K = laws.first-list-claims q Γ K

use Rattle.resolution_stages.proofs.FirstLists as laws
use Rattle.resolution_stages.proofs.resolution_exists_law.Goals as goal

pub returns : goal.returns
returns c n q Γ F P = laws.resolution-exists q F Γ P

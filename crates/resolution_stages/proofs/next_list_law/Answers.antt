use Rattle.resolution_stages.proofs.NextList as laws
use Rattle.resolution_stages.proofs.next_list_law.Goals as goal

pub returns : goal.returns
returns c n q Γ K b E Q N = laws.next-list q Γ K b E Q N

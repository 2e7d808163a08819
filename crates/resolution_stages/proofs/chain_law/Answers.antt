use Rattle.resolution_stages.proofs.FirstLists as laws
use Rattle.resolution_stages.proofs.chain_law.Goals as goal

pub returns : goal.returns
returns c n q Γ K E Qs F P e h = laws.chain-claims q F P Γ K E Qs e h

use Rattle.resolution_stages.proofs.ChainLaws as laws
use Rattle.resolution_stages.proofs.stages_law.Goals as goal

pub returns : goal.returns
returns c n q Γ K F P = laws.stages-exist q F Γ K P

use Rattle.resolution_stages.proofs.ChainLaws as laws
use Rattle.resolution_stages.proofs.one_stages_law.Goals as goal

pub returns : goal.returns
returns c n q Γ K S F A = laws.stage-claims q F Γ K S A

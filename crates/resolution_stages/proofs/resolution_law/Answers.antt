use Rattle.resolution_stages.proofs.FromDefinitions as laws
use Rattle.resolution_stages.proofs.resolution_law.Goals as goal

pub returns : goal.returns
returns c n q Γ K S F A = laws.resolution-claims q F Γ K S A

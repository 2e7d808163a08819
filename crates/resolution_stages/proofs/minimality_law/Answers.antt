use Rattle.resolution_stages.proofs.FromDefinitions as laws
use Rattle.resolution_stages.proofs.minimality_law.Goals as goal

pub returns : goal.returns
returns c n q Γ K S F P A = laws.minimality-claims q F Γ K S A P

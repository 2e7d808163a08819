use Rattle.resolution_stages.proofs.Computed as laws
use Rattle.resolution_stages.proofs.computed_law.Goals as goal

pub returns : goal.returns
returns c n q Γ K b E Q matrix F P U = laws.computed-claims q F P Γ K b E Q matrix U

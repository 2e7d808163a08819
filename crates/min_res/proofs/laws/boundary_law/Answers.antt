use Rattle.min_res.proofs.OneStage as laws
use Rattle.min_res.proofs.laws.boundary_law.Goals as goal

pub returns : goal.returns
returns c G d s u L r = laws.boundary-value G d s u L r

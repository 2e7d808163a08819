use Rattle.min_res.proofs.OneStage as laws
use Rattle.min_res.proofs.laws.stage_exists_law.Goals as goal

pub returns : goal.returns
returns c G d = laws.stage-exists G d

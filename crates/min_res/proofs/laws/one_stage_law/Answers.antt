use Rattle.min_res.proofs.OneStage as laws
use Rattle.min_res.proofs.laws.one_stage_law.Goals as goal

pub returns : goal.returns
returns c G d s t L M = laws.one-stage G d s t L M

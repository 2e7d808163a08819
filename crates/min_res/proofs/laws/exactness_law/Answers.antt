use Rattle.min_res.proofs.StageLaws as laws
use Rattle.min_res.proofs.laws.exactness_law.Goals as goal

pub returns : goal.returns
returns c G d = laws.exact-minimal G d

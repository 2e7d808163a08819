use Rattle.min_res.proofs.StageLaws as laws
use Rattle.min_res.proofs.laws.section_law.Goals as goal

pub returns : goal.returns
returns c G d = laws.section-is G d

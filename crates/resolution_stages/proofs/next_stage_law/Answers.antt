use Rattle.resolution_stages.proofs.Unique as laws
use Rattle.resolution_stages.proofs.next_stage_law.Goals as goal

pub returns : goal.returns
returns c n q Γ K b E Q R F N O = laws.next-is-one q F Γ K b E Q R N O

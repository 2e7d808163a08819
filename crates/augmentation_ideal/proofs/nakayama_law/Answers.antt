use Rattle.augmentation_ideal.proofs.Laws as laws
use Rattle.augmentation_ideal.proofs.nakayama_law.Goals as goal

pub returns : goal.returns
returns c n q Γ P b = laws.nakayama-claim q Γ P b

use Rattle.augmentation_ideal.proofs.Laws as laws
use Rattle.augmentation_ideal.proofs.radical_law.Goals as goal

pub returns : goal.returns
returns c n q Γ P b = laws.radical-claims q Γ P b

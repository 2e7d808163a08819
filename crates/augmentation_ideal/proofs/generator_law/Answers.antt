use Rattle.augmentation_ideal.proofs.Laws as laws
use Rattle.augmentation_ideal.proofs.generator_law.Goals as goal

pub returns : goal.returns
returns c n q Γ P b K m row U B = laws.generator-claims q Γ P b K m row U B

use Rattle.radical_layers.proofs.LayerLaws as laws
use Rattle.radical_layers.proofs.layers_law.Goals as goal

pub returns : goal.returns
returns c n q Γ K F P = laws.layer-claims q Γ K F P

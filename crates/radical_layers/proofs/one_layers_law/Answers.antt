use Rattle.radical_layers.proofs.LayersExist as laws
use Rattle.radical_layers.proofs.one_layers_law.Goals as goal

pub returns : goal.returns
returns c n q Γ K Y Z F A B = laws.layers-one q F Γ K Y Z A B

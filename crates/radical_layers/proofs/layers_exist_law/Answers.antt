use Rattle.radical_layers.proofs.LayersExist as laws
use Rattle.radical_layers.proofs.layers_exist_law.Goals as goal

pub returns : goal.returns
returns c n q Γ K F P = laws.layers-exist q F Γ K P

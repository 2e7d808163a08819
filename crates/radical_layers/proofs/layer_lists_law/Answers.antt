use Rattle.radical_layers.proofs.LayersExist as laws
use Rattle.radical_layers.proofs.layer_lists_law.Goals as goal

pub returns : goal.returns
returns c n q Γ K Es xs F A = laws.layers-of-lists q F Γ K Es xs A

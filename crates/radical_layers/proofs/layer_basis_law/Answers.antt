use Rattle.radical_layers.proofs.FirstLayer as laws
use Rattle.radical_layers.proofs.layer_basis_law.Goals as goal

pub returns : goal.returns
returns c n q Γ K Y F A = laws.layer-basis-claims q F Γ K Y A

use Rattle.radical_layers.proofs.UnitRows as laws
use Rattle.radical_layers.proofs.unit_law.Goals as goal

pub returns : goal.returns
returns c n q Γ K Y F A C = laws.unit-claims q F Γ K Y A C

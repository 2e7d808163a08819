use Rattle.radical_generators.proofs.LayerPlaces as laws
use Rattle.radical_generators.proofs.first_layer_law.Goals as goal

pub returns : goal.returns
returns c n q Γ K Y F A = laws.place-claims q F Γ K Y A

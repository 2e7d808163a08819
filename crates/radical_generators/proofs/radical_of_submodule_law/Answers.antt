use Rattle.radical_generators.proofs.Radical as laws
use Rattle.radical_generators.proofs.radical_of_submodule_law.Goals as goal

pub returns : goal.returns
returns c n q Γ K Y F P A b width C E R products G I = laws.radical-claims q F Γ P K Y A b C E R products G I

use Rattle.radical_generators.proofs.Ideal as laws
use Rattle.radical_generators.proofs.ideal_law.Goals as goal

pub returns : goal.returns
returns c n q Γ K Y F P A = laws.ideal-claims q F Γ P K Y A

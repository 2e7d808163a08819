use Rattle.radical_generators.proofs.Whole as laws
use Rattle.radical_generators.proofs.submodule_rows_law.Goals as goal

pub returns : goal.returns
returns c n q Γ K Y b width C E M U = laws.whole-claims q Γ K Y b C E M U

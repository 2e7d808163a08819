use Rattle.radical_generators.proofs.ChosenRows as laws
use Rattle.radical_generators.proofs.chosen_rows_law.Goals as goal

pub returns : goal.returns
returns c n q Γ K Y b width C E = laws.chosen-claims q Γ K Y b C E

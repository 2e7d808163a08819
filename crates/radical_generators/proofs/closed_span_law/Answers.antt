use Rattle.radical_generators.proofs.ClosedSpans as laws
use Rattle.radical_generators.proofs.closed_span_law.Goals as goal

pub returns : goal.returns
returns c n q Γ K Y F P A b width C = laws.map-claims q F Γ P K Y A b C

use Rattle.radical_layers.proofs.SumForm as laws
use Rattle.radical_layers.proofs.sum_form_law.Goals as goal

pub returns : goal.returns
returns c n q Γ l = (
  laws.sum-form q Γ l,
  record { first = laws.sum-first q Γ l; others = laws.sum-others q Γ l },
)

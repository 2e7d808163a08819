use Rattle.coho_report.proofs.FirstLarge.{one_subgroup}
use Rattle.coho_report.proofs.laws.one_refusal.Goals as goal

pub returns : goal.returns
returns c = one_subgroup

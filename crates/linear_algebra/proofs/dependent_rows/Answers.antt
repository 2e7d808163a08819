use Rattle.linear_algebra.proofs.Laws as laws
use Rattle.linear_algebra.proofs.dependent_rows.Goals as goal

pub returns : goal.returns
returns c p width rows F M l = laws.dependent_rows rows F M l

use Rattle.resolution_stages.proofs.CheckClaims as laws
use Rattle.resolution_stages.proofs.checks_law.Goals as goal

pub returns : goal.returns
returns c n q Γ K b E Q F S H = (laws.checks-next q F Γ K b E S Q H, laws.next-checks q F Γ K b E S Q H)

use Rattle.chain_maps.proofs.ChainMaps as laws
use Rattle.chain_maps.proofs.lift_law.Goals as goal

pub returns : goal.returns
returns c n q Γ K S F A = laws.lift-claims q Γ K S F A

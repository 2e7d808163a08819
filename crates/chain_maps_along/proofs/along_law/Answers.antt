use Rattle.chain_maps_along.proofs.Maps.{along-claims}
use Rattle.chain_maps_along.proofs.along_law.Goals as goal

pub returns : goal.returns
returns c m n q Δ Γ f J A K S F h a s = along-claims q Δ Γ f J A K S F h a s

use Rattle.chain_maps.proofs.Vectors as laws
use Rattle.chain_maps.proofs.vector_law.Goals as goal

pub returns : goal.returns
returns c q b = laws.vector-claims q b

use Rattle.chain_maps.proofs.Vectors as laws
use Rattle.chain_maps.proofs.product_law.Goals as goal

pub returns : goal.returns
returns c n q Γ K S d e v w = laws.product-claims q Γ K S d e v w

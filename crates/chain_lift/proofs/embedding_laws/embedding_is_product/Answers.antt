use Rattle.chain_lift.proofs.EmbeddingElements.{embedded}
use Rattle.chain_lift.proofs.embedding_laws.embedding_is_product.Goals as goal

pub returns : goal.returns
returns c G s S e = embedded G s S e

use Rattle.chain_lift.proofs.EmbeddingElements.{homomorphism}
use Rattle.chain_lift.proofs.embedding_laws.embedding_is_homomorphism.Goals as goal

pub returns : goal.returns
returns c G s S = homomorphism G s S

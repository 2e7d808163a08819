use Rattle.chain_lift.proofs.EmbeddingElements.{elementary-is}
use Rattle.chain_lift.proofs.embedding_laws.elementary_is_one.Goals as goal

pub returns : goal.returns
returns c G H s e = elementary-is G H s e

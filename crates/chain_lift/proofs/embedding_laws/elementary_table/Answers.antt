use Rattle.chain_lift.proofs.EmbeddingElements.{elementary-table}
use Rattle.chain_lift.proofs.embedding_laws.elementary_table.Goals as goal

pub returns : goal.returns
returns c G s = elementary-table G s

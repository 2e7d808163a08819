use Rattle.std.proofs.Common.{length}
use Rattle.chain_lift.specs.Embeddings.{elementary_over, embedding}
use Rattle.chain_lift.proofs.EmbeddingElements.{homomorphism}
use Rattle.chain_lift.proofs.EmbeddingMaps.{map-claims}
use Rattle.chain_lift.proofs.embedding_laws.embedding_maps_law.Goals as goal

pub returns : goal.returns
returns c G s S = map-claims G (elementary_over G (length s.basis)) (embedding G s.basis) (homomorphism G s S)

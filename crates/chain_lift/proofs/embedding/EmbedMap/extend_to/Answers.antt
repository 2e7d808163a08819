use Rattle.std.proofs.Common.{◌≡◌, length, ap, sym, ◌∙◌}
use Rattle.chain_lift.specs.Embeddings.{elementary}
use Rattle.chain_lift.specs.EmbeddingValues.{EmbedValue}
use Rattle.chain_lift.proofs.embedding.EmbedMap.extend_to.Goals as goal

pub extend-requires-clause-own : goal.extend-requires-clause-own
extend-requires-clause-own c = c.requires.own ∙ ap (λ (v : EmbedValue). elementary v.group (length v.basis))
    (sym c.loop-d.invariant.value)

use Rattle.std.proofs.Common.{◌≤◌, sym, refl}
use mathlib.Core.Path.{subst}
use Rattle.chain_lift.specs.EmbeddingValues.{EmbedValue}
use Rattle.chain_lift.proofs.EmbeddingLevels.{store-take}
use Rattle.chain_lift.proofs.embedding.EmbedMap.cut.Goals as goal

pub invariant_of-self : goal.invariant_of-self
invariant_of-self c = store-take _ _ c.args.height _ c.self.inside.levels.items _ c.self.invariant
    (subst (λ (v : EmbedValue). c.args.height ≤ v.height) (sym c.self.view_is) c.requires)
    c.truncate.ensures.items refl

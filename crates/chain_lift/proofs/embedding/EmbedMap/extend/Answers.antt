use Rattle.std.proofs.Common.{◌≡◌, ◌-◌, length, suc, arith, ap, sym, refl}
use mathlib.Core.Path.{subst}
use Rattle.chain_lift.specs.EmbeddingValues.{EmbedValue}
use Rattle.chain_lift.specs.EmbeddingStores.{IsEmbedLevel}
use Rattle.chain_lift.proofs.EmbeddingLevels.{store-push}
use Rattle.chain_lift.proofs.embedding.EmbedMap.extend.Goals as goal

pub invariant_of-self-2 : goal.invariant_of-self-2
invariant_of-self-2 c = store-push _ _ _ c.self.inside.levels.items _ c.in_ok-level.level c.self.invariant
    (let z : length c.self.inside.levels.items - 1 ≡ c.args.self.now.height =
    ap (λ (v : EmbedValue). v.height) c.self.view_is in
    omega (arith, z))
    (let P : EmbedValue → Type 0 = λ v. IsEmbedLevel v.group v.basis (suc v.height) c.in_ok-level.level in
    subst P (sym c.self.view_is) c.in_ok-level.ensures)
    c.in_ok-push.ensures.items refl

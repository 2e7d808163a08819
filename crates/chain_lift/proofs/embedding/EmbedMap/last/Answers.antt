use Rattle.std.proofs.Common.{◌≡◌, ◌-◌, suc, length, get_or, arith, ap, ◌∙◌}
use mathlib.Core.Path.{subst}
use Rattle.chain_lift.specs.EmbeddingStores.{IsEmbedStore}
use Rattle.chain_lift.proofs.EmbeddingLevels.{level-at}
use Rattle.chain_lift.proofs.embedding.EmbedMap.last.Goals as goal

pub returns : goal.returns
returns c =
    let S : IsEmbedStore c.args.self.now c.self.inside.subgroup c.self.inside.levels.items =
    subst (λ v. IsEmbedStore v c.self.inside.subgroup c.self.inside.levels.items) c.self.view_is
    c.self.invariant in
    let n : c.len.result ≡ length c.self.inside.levels.items = c.len.ensures ∙ c.self.inside.levels.ok.0 in
    let m : length c.self.inside.levels.items ≡ suc c.args.self.now.height = S.count in
    level-at c.args.self.now c.self.inside.subgroup c.self.inside.levels.items S c.args.self.now.height
    c.index.result.now (omega arith)
    (c.index.ensures ∙ ap (λ k. get_or c.self.inside.levels.items k c.index.result.now)
    (let z : c.len.result - 1 ≡ c.args.self.now.height = omega (arith, n, m) in z))

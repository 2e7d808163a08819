use Rattle.std.proofs.Common.{◌∙◌}
use Rattle.group_algebra.proofs.LayerSizes.{layer-count}
use Rattle.group_algebra.proofs.algebra.Algebra.layers.Goals as goal

pub returns : goal.returns
returns c = rw (← c.self.view_is) (c.layers.ensures
    ∙ layer-count c.self.inside.group c.self.inside.places c.self.invariant.sizes_are)

use Rattle.std.proofs.Common.{◌≡◌, ◌<◌, length, ◌∙◌, arith}
use Rattle.group_algebra.specs.Coordinates.{layers}
use Rattle.group_algebra.proofs.LayerSizes.{layer-count, layer-size}
use Rattle.group_algebra.proofs.algebra.Algebra.layer_dim.Goals as goal

pub size-requires : goal.size-requires
size-requires c =
    let l : c.args.i < (layers c.self.inside.group).count = rw (← c.self.view_is) at c.requires in
    let e : length c.self.inside.places ≡ (layers c.self.inside.group).count =
    layer-count c.self.inside.group c.self.inside.places c.self.invariant.sizes_are in
    omega (arith, l, e)

pub returns : goal.returns
returns c = rw (← c.self.view_is) (c.size.ensures.value
    ∙ layer-size c.self.inside.group c.self.inside.places c.args.i c.self.invariant.sizes_are
    (rw (← c.self.view_is) at c.requires))

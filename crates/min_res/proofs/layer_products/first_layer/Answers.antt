use Rattle.std.proofs.Common.{arith}
use Rattle.min_res.proofs.ProductMaps.{no-members}
use Rattle.min_res.proofs.layer_products.first_layer.Goals as goal

pub returns-then-layers-lt2 : goal.returns-then-layers-lt2
returns-then-layers-lt2 c = no-members c.args.algebra.now
    (omega (arith, c.if-layers-lt2.true, c.layers.ensures))

pub returns : goal.returns
returns c = record {
  count_is = c.layer_dim-count.ensures;
  before_is = λ _. c.layer_dim-before.ensures;
  some = λ _. omega (arith, c.if-layers-lt2.false, c.layers.ensures);
}

use Rattle.group_algebra.proofs.ProductLists.{product-by}
use Rattle.group_algebra.proofs.generation.add_multiples.Goals as goal

pub add_product-requires-clause-product : goal.add_product-requires-clause-product
add_product-requires-clause-product c = product-by _ _ c.args.x _ c.loop-s.s-index c.requires.product
    c.loop-s-test.true c.mul-y.ensures.value

use Rattle.group_algebra.specs.Products.{unit}
use Rattle.group_algebra.proofs.generation.generators.Goals as goal

pub add_product-requires-clause-product : goal.add_product-requires-clause-product
add_product-requires-clause-product c = unit

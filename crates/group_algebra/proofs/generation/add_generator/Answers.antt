use Rattle.group_algebra.proofs.ProductLists.{products-push, generator-product, product-push}
use Rattle.group_algebra.proofs.generation.add_generator.Goals as goal

pub add_all-requires-clause-products : goal.add_all-requires-clause-products
add_all-requires-clause-products c = rw (
  c.deref.ensures.value,
  c.in_ok-push.ensures.items,
) (products-push _ _ c.args.g _ _ c.requires.products)

pub returns-clause-here : goal.returns-clause-here
returns-clause-here c = rw c.in_ok-push.ensures.items
    (generator-product _ c.args.found.now.items c.args.g c.order.ensures.law c.requires.below)

pub returns-clause-before : goal.returns-clause-before
returns-clause-before c = rw c.in_ok-push.ensures.items (λ x h. product-push _ _ c.args.g x h)

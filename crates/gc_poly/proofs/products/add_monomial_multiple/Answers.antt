use Rattle.std.proofs.Common.{arith}
use Rattle.gc_poly.proofs.SumLemmas.{coefficient-at}
use Rattle.gc_poly.proofs.ProductLemmas.{multiple-step}
use Rattle.gc_poly.proofs.products.add_monomial_multiple.Goals as goal

pub add_product-requires-clause-below : goal.add_product-requires-clause-below
add_product-requires-clause-below c = (
  c.requires.below,
  coefficient-at c.args.gens.now c.args.f.now c.loop-i.i c.coefficient.result
      c.requires.over (omega arith) c.coefficient.ensures,
)

pub loop-i-preserved : goal.loop-i-preserved
loop-i-preserved c = multiple-step c.args.gens.now c.args.out.now.degree c.args.c c.coefficient.result
    c.loop-i.i c.args.m.now c.mono.result.now c.args.out.now.terms c.args.f.now.terms c.loop-i.out
    c.add_product.new.out
    c.coefficient.ensures c.mono.ensures c.loop-i.invariant c.in_ok-add_product.ensures

use Rattle.std.proofs.Common.{◌+◌, arith}
use Rattle.gc_poly.proofs.SumLemmas.{coefficient-at}
use Rattle.gc_poly.proofs.ProductLemmas.{product-step}
use Rattle.gc_poly.proofs.products.mul.Goals as goal

pub add_monomial_multiple-requires-clause-below : goal.add_monomial_multiple-requires-clause-below
add_monomial_multiple-requires-clause-below c =
    coefficient-at c.args.gens.now c.args.a.now c.loop-i.i c.coefficient.result c.requires.left
    (omega arith) c.coefficient.ensures

pub loop-i-preserved : goal.loop-i-preserved
loop-i-preserved c = product-step c.args.gens.now
    (c.args.a.now.degree + c.args.b.now.degree) c.coefficient.result c.loop-i.i c.mono.result.now
    c.args.a.now.terms c.args.b.now.terms c.loop-i.out c.add_monomial_multiple.new.out
    c.coefficient.ensures c.mono.ensures c.loop-i.invariant c.in_ok-add_monomial_multiple.ensures

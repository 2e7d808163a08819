use Rattle.std.proofs.Common.{◌+◌, ◌-◌}
use Rattle.sample_groups.specs.Products.{Agrees, direct_product}
use Rattle.sample_groups.proofs.products.direct_product.Given as goal

abbrev pub invariant-loop-j : goal.invariant-loop-j
invariant-loop-j l = Agrees (direct_product l.p l.q) (l.p.gens + l.q.gens) (l.j - 1) l.made

use Rattle.std.proofs.Common.{◌-◌}
use Rattle.sample_groups.specs.Products.{Agrees, direct_product}
use Rattle.sample_groups.proofs.products.set_powers.Given as goal

abbrev pub invariant-loop-i : goal.invariant-loop-i
invariant-loop-i l = Agrees (direct_product l.p l.q) (l.i - 1) 0 l.made

use Rattle.sample_groups.specs.Products.{direct_product}
use Rattle.sample_groups.proofs.Agreement.{RowAgrees}
use Rattle.sample_groups.proofs.products.set_row.Given as goal

abbrev pub invariant-loop-i : goal.invariant-loop-i
invariant-loop-i l = RowAgrees (direct_product l.p l.q) l.j l.i l.made

use Rattle.std.proofs.Common.{◌+◌, subst, sym, arith}
use Rattle.sample_groups.specs.Products.{direct_product}
use Rattle.sample_groups.proofs.Agreement.{RowAgrees, commutator_fits, row_agrees}
use Rattle.sample_groups.proofs.products.set_row.Goals as goal

pub set_commutator-requires-clause-word : goal.set_commutator-requires-clause-word
set_commutator-requires-clause-word c =
    commutator_fits
    (direct_product c.args.p.now c.args.q.now) c.requires.valid c.loop-i.made c.args.j c.loop-i.i
    c.in_ok-commutator_in_product.field-0.items c.loop-i.invariant (omega arith) (omega arith)
    c.requires.last c.in_ok-commutator_in_product.ensures

pub loop-i-preserved : goal.loop-i-preserved
loop-i-preserved c =
    subst (RowAgrees (direct_product c.args.p.now c.args.q.now) c.args.j (c.loop-i.i + 1))
    (sym c.set_commutator.ensures)
    (row_agrees (direct_product c.args.p.now c.args.q.now) c.requires.valid c.loop-i.made c.args.j c.loop-i.i
    c.in_ok-commutator_in_product.field-0.items c.loop-i.invariant (omega arith) (omega arith)
    c.requires.last c.in_ok-commutator_in_product.ensures)

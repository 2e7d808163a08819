use Rattle.std.proofs.Common.{◌+◌, refl}
use Rattle.linear_algebra.specs.Rows.{entry}
use Rattle.neg_basis.specs.declared.origin.Origin.TheVariants.{Chosen}
use Rattle.neg_basis.proofs.OriginLemmas.{origins_added}
use Rattle.neg_basis.proofs.ReadyLemmas.{ready_at}
use Rattle.neg_basis.proofs.WorkLemmas.{row_turn}
use Rattle.neg_basis.proofs.work.take.Goals as goal

pub insert-requires : goal.insert-requires
insert-requires g c = ready_at c.requires.ready

pub close-requires-clause-ready : goal.close-requires-clause-ready
close-requires-clause-ready g c =
    rw (c.requires.ready.same_field, c.requires.ready.same_width) at c.in_ok-insert.ensures.ready

pub returns-clause-origins : goal.returns-clause-origins
returns-clause-origins g c = λ h. c.in_ok-close.ensures.origins
    (origins_added (entry c.args.v.now.entries) (Chosen c.args.number) c.in_ok-insert.ensures.added tt h)

pub returns-clause-taken : goal.returns-clause-taken
returns-clause-taken g c =
    let field = rw c.requires.ready.same_field at c.in_ok-insert.ensures.field in
    let added = rw (c.requires.ready.same_field, c.requires.ready.same_width) at c.in_ok-insert.ensures.added
    in
    let step = rw c.rows-done.ensures.count at c.in_ok-close.ensures.worked in
    λ gens l e W. step gens (c.args.number + 1)
    (row_turn field (g.met.T.Ops.linear c.args.ops.now) W l refl (entry c.args.v.now.entries) e added)

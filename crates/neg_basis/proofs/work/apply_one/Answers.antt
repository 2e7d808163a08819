use Rattle.std.proofs.Common.{ℕ}
use Rattle.std.proofs.lemmas.Result.{on_ok_weaker}
use Rattle.linear_algebra.specs.Modular.{IsCongruent}
use Rattle.linear_algebra.specs.Rows.{entry, row}
use Rattle.neg_basis.specs.declared.origin.Origin.TheVariants.{Step}
use Rattle.neg_basis.proofs.OriginLemmas.{origins_added}
use Rattle.neg_basis.proofs.ReadyLemmas.{ready_with, ready_at}
use Rattle.neg_basis.proofs.WorkLemmas.{map_turn}
use Rattle.neg_basis.proofs.work.apply_one.Goals as goal

pub apply-requires-clause-row : goal.apply-requires-clause-row
apply-requires-clause-row g c = rw (
  c.row.ensures.entries,
  ← c.requires.ready.same_field,
  ← c.requires.ready.same_width,
) c.row.ensures.is_row

pub insert-requires : goal.insert-requires
insert-requires g c =
    ready_at (ready_with c.apply.new.out c.requires.ready c.apply.ensures.prime c.apply.ensures.row)

pub returns-clause-ready : goal.returns-clause-ready
returns-clause-ready g c =
    rw (c.requires.ready.same_field, c.requires.ready.same_width) at c.insert.ensures.ready

pub returns-clause-origins : goal.returns-clause-origins
returns-clause-origins g c = on_ok_weaker c.insert.result
    (λ A h. origins_added (entry c.apply.new.out.entries) (Step c.args.number c.args.of) A c.requires.of_is h)
    c.insert.ensures.added

pub returns-clause-worked : goal.returns-clause-worked
returns-clause-worked g c = let e : (j : ℕ) → IsCongruent (g.T.Ops.modulus c.args.ops.now)
    (entry c.apply.new.out.entries j) (g.T.Ops.image c.args.ops.now c.args.number
    (entry (row c.args.found.now.vectors.rows c.args.of)) j) =
    rw (← c.row.ensures.entries) c.apply.ensures.image in
    let added = rw (c.requires.ready.same_field, c.requires.ready.same_width) at c.insert.ensures.added in
    let field = rw c.requires.ready.same_field at c.insert.ensures.field in
    on_ok_weaker c.insert.result (λ A gens n W. map_turn field W c.requires.number_is
    c.requires.of_is (entry c.apply.new.out.entries) e A) added

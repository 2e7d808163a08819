use Rattle.std.proofs.lemmas.Result.{IfOk-weaker}
use Rattle.linear_algebra.specs.Choices.{ArePreimages}
use Rattle.group_algebra.proofs.TableLemmas.{units-in-span, sums-to-layers}
use Rattle.group_algebra.proofs.tables.unit_preimages.Goals as goal

pub preimages-requires-clause-in_span : goal.preimages-requires-clause-in_span
preimages-requires-clause-in_span c = rw c.requires.basis.prime
    (units-in-span c.args.group.now c.args.basis.now.rows c.in_ok-whole.whole.rows c.requires.rows
    c.in_ok-whole.ensures.units.0 c.in_ok-whole.ensures.units.1)

pub returns-clause-rows : goal.returns-clause-rows
returns-clause-rows c = IfOk-weaker c.preimages.result
    (λ u. ArePreimages c.args.basis.now.p c.args.basis.now.rows c.in_ok-none.none.rows
    c.in_ok-whole.whole.rows u.rows) _
    (λ u P. sums-to-layers c.args.group.now c.args.basis.now.rows c.in_ok-whole.whole.rows u.rows
    c.in_ok-none.none.rows c.requires.rows c.in_ok-whole.ensures.units.0 c.in_ok-whole.ensures.units.1
    (rw c.requires.basis.prime at P))
    c.preimages.ensures.rows

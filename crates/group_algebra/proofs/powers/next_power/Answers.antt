use Rattle.std.proofs.lemmas.Result.{IfOk-weaker}
use Rattle.linear_algebra.specs.Rows.{IsEchelonOf}
use Rattle.group_algebra.proofs.PowerLemmas.{next-is}
use Rattle.group_algebra.proofs.powers.next_power.Goals as goal

pub returns-clause-power : goal.returns-clause-power
returns-clause-power c = IfOk-weaker c.echelon.result
    (λ e. IsEchelonOf c.in_ok-m.m.p c.in_ok-m.m.width c.in_ok-m.m.rows e.rows) _
    (λ e E i P. next-is c.args.group.now i c.args.list.now.rows c.in_ok-m.m.rows e.rows P
    c.args.generators.now c.requires.generators (c.in_ok-m.ensures.moves)
    (rw (c.in_ok-m.ensures.kept.0, c.in_ok-m.ensures.kept.1) at E))
    c.echelon.ensures.rows

use Rattle.std.proofs.Common.{◌-◌, arith, sym, ◌∙◌}
use Rattle.polynomial_reader.proofs.Stopping.{next-state, stops-at, stops-end, text-ends}
use Rattle.polynomial_reader.proofs.syntax.stop.Goals as goal

pub loop-i-preserved : goal.loop-i-preserved
loop-i-preserved c = next-state (c.args.p - 1) c.args.text.now (omega arith)
    (omega arith) c.loop-i.i c.loop-i.state c.loop-i-test.true
    c.loop-i.invariant ∙ sym c.after.ensures ∙ c.in-Some.is

pub returns-in-None-clause-some : goal.returns-in-None-clause-some
returns-in-None-clause-some c = stops-at (c.args.p - 1) c.args.text.now (omega arith)
    (omega arith) c.loop-i.i c.loop-i.state c.loop-i-test.true c.loop-i.invariant (sym c.after.ensures
    ∙ c.in-None.is)

pub returns-then-is_end-clause-none : goal.returns-then-is_end-clause-none
returns-then-is_end-clause-none c _ = text-ends (c.args.p - 1) c.args.text.now (omega arith)
    (omega arith) c.loop-i.i c.loop-i.state
    (omega arith) c.loop-i.invariant (sym c.is_end.ensures ∙ c.if-is_end.true)

pub returns-else-is_end-clause-some : goal.returns-else-is_end-clause-some
returns-else-is_end-clause-some c = stops-end (c.args.p - 1) c.args.text.now (omega arith)
    (omega arith) c.loop-i.i c.loop-i.state
    (omega arith) c.loop-i.invariant (sym c.is_end.ensures ∙ c.if-is_end.false)

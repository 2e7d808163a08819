use Rattle.std.proofs.Common.{◌≡◌, ◌-◌, take, Some}
use Rattle.polynomial_reader.specs.declared.syntax.State.TheVariants.{Start}
use Rattle.polynomial_reader.specs.Automaton.{run}
use Rattle.polynomial_reader.proofs.syntax.stop.Given as goal

abbrev pub invariant-loop-i : goal.invariant-loop-i
invariant-loop-i l = run (l.p - 1) Start (take l.i l.text) ≡ Some l.state

use Rattle.param_test.specs.Odometers.{IsSpread}
use Rattle.param_test.proofs.combos.spread.Given as goal

abbrev pub invariant-loop-i : goal.invariant-loop-i
invariant-loop-i l = IsSpread l.n l.a l.c l.i l.next l.row.items

use Rattle.std.proofs.Common.{◌≡◌, ◌+◌, ◌++◌, drop}
use Rattle.power_commutator.specs.Collect.{spell}
use Rattle.pc_group.proofs.collection.push_factors.Given as goal

abbrev pub invariant-loop-i : goal.invariant-loop-i
invariant-loop-i l = l.factors.items ++ spell (l.first + l.i)
    (drop l.i l.exponents) ≡ l.initial.factors.items ++ spell l.first l.exponents

use Rattle.std.proofs.Common.{◌≡◌, ◌-◌, ◌++◌}
use Rattle.power_commutator.specs.Collect.{copies}
use Rattle.pc_group.proofs.collection.push_power.Given as goal

abbrev pub invariant-loop-k : goal.invariant-loop-k
invariant-loop-k l = l.factors.items ++ copies (l.e - l._k) l.i ≡ l.initial.factors.items ++ copies l.e l.i

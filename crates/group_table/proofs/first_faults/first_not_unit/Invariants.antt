use Rattle.std.proofs.Common.{ℕ, ◌<◌}
use Rattle.group_table.specs.TableFaults.{IsUnitAt}
use Rattle.group_table.proofs.first_faults.first_not_unit.Given as goal

abbrev pub invariant-loop-a : goal.invariant-loop-a
invariant-loop-a l = (k : ℕ) → k < l.a → IsUnitAt l.table k

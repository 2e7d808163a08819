use Rattle.std.proofs.Common.{ℕ, ◌<◌}
use Rattle.group_table.specs.TableFaults.{IsAssociativeAt}
use Rattle.group_table.specs.Tables.{order}
use Rattle.group_table.proofs.first_faults.first_pair.Given as goal

abbrev pub invariant-loop-b : goal.invariant-loop-b
invariant-loop-b l = (j k : ℕ) → j < l.b → k < order l.table → IsAssociativeAt l.table l.a j k

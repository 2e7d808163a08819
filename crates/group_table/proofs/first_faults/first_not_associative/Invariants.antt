use Rattle.std.proofs.Common.{ℕ, ◌<◌}
use Rattle.group_table.specs.TableFaults.{IsAssociativeAt}
use Rattle.group_table.specs.Tables.{order}
use Rattle.group_table.proofs.first_faults.first_not_associative.Given as goal

abbrev pub invariant-loop-a : goal.invariant-loop-a
invariant-loop-a l = (i j k : ℕ) → i < l.a → j < order l.table → k < order l.table
    → IsAssociativeAt l.table i j k

use Rattle.std.proofs.Common.{ℕ, ◌<◌}
use Rattle.group_table.specs.TableFaults.{IsAssociativeAt}
use Rattle.group_table.proofs.first_faults.first_third.Given as goal

abbrev pub invariant-loop-c : goal.invariant-loop-c
invariant-loop-c l = (k : ℕ) → k < l.c → IsAssociativeAt l.table l.a l.b k

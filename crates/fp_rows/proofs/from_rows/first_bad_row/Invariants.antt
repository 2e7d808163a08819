use Rattle.std.proofs.Common.{ℕ, ◌<◌}
use Rattle.fp_rows.specs.Lists.{lists}
use Rattle.fp_rows.specs.ReducedRows.{IsReducedRow}
use Rattle.fp_rows.proofs.from_rows.first_bad_row.Given as goal

-- the rows before are rows of a reduced echelon list
abbrev pub invariant-loop-k : goal.invariant-loop-k
invariant-loop-k l = (i : ℕ) → i < l.k → IsReducedRow (lists l.rows) i

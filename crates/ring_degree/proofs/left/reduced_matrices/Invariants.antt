use Rattle.std.proofs.Common.{◌≡◌, ℕ, ◌<◌, length, get_or}
use Rattle.fp_rows.specs.Values.{MatrixValue}
use Rattle.ring_degree.specs.Tables.{rows_at}
use Rattle.ring_degree.proofs.RestRows.{IsRestMatrix}
use Rattle.ring_degree.proofs.left.reduced_matrices.Given as goal

-- the first matrices
abbrev pub invariant-loop-i : goal.invariant-loop-i
invariant-loop-i l = record {
  count : length l.reduced.items ≡ l.i;
  each : (j : ℕ) (n : MatrixValue) → j < l.i → IsRestMatrix l.e l.left (rows_at l.matrices j)
      (get_or l.reduced.items j n);
}

use Rattle.std.proofs.Common.{◌≡◌, ℕ, ◌+◌, ◌*◌, ◌%◌, ◌<◌, ◌≤◌}
use Rattle.linear_algebra.specs.Rows.{entry}
use Rattle.fp_rows.proofs.arithmetic.add_once.Given as goal

abbrev pub invariant-loop-i : goal.invariant-loop-i
invariant-loop-i g l = record {
  done : (j : ℕ) → j < l.i → entry l.dst j ≡ (entry l.fn.dst j + 1 * entry l.src j) % g.row.M;
  rest : (j : ℕ) → l.i ≤ j → entry l.dst j ≡ entry l.fn.dst j;
}

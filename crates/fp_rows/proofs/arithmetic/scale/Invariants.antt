use Rattle.std.proofs.Common.{◌≡◌, ℕ, ◌*◌, ◌%◌, ◌<◌, ◌≤◌}
use Rattle.group_table.specs.Prime.{prime_value}
use Rattle.linear_algebra.specs.Rows.{entry}
use Rattle.fp_rows.proofs.arithmetic.scale.Given as goal

abbrev pub invariant-loop-x : goal.invariant-loop-x
invariant-loop-x l = record {
  done : (j : ℕ) → j < l.x-index → entry l.r j ≡ l.c * entry l.fn.r j % prime_value l.fn.p;
  rest : (j : ℕ) → l.x-index ≤ j → entry l.r j ≡ entry l.fn.r j;
}

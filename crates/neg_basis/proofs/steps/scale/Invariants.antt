use Rattle.std.proofs.Common.{◌≡◌, ℕ, ◌*◌, ◌%◌, ◌<◌, ◌≤◌, length}
use Rattle.linear_algebra.specs.Rows.{entry}
use Rattle.neg_basis.proofs.steps.scale.Given as goal

abbrev pub invariant-loop-i : goal.invariant-loop-i
invariant-loop-i l = record {
  prime : l.v.p ≡ l.fn.v.p;
  length_kept : length l.v.entries ≡ length l.fn.v.entries;
  done : (j : ℕ) → j < l.i → entry l.v.entries j ≡ l.c * entry l.fn.v.entries j % l.m;
  rest : (j : ℕ) → l.i ≤ j → entry l.v.entries j ≡ entry l.fn.v.entries j;
}

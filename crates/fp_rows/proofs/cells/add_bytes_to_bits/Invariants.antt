use Rattle.std.proofs.Common.{◌≡◌, ℕ, ◌+◌, ◌*◌, ◌%◌, ◌<◌, ◌≤◌, length}
use Rattle.linear_algebra.specs.Rows.{entry}
use Rattle.fp_rows.proofs.cells.add_bytes_to_bits.Given as goal

abbrev pub invariant-loop-i : goal.invariant-loop-i
invariant-loop-i l = record {
  same_length : length l.b ≡ length l.fn.b;
  done : (j : ℕ) → j < l.i → entry l.b j ≡ (entry l.fn.b j + 1 * entry l.s j) % 2;
  rest : (j : ℕ) → l.i ≤ j → entry l.b j ≡ entry l.fn.b j;
}

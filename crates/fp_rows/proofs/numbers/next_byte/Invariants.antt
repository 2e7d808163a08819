use Rattle.std.proofs.Common.{◌≡◌, ℕ, ◌<◌, ◌≤◌}
use Rattle.linear_algebra.specs.Rows.{entry}
use Rattle.fp_rows.proofs.numbers.next_byte.Given as goal

abbrev pub invariant-loop-i : goal.invariant-loop-i
invariant-loop-i l = (j : ℕ) → l.from ≤ j → j < l.i → entry l.s j ≡ 0

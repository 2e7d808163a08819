use Rattle.std.proofs.Common.{◌≡◌, ℕ, ◌+◌, ◌<◌, ◌≤◌}
use Rattle.std.specs.Int.{bit_at}
use Rattle.linear_algebra.specs.Rows.{entry}
use Rattle.fp_rows.proofs.numbers.word_of_bytes.Given as goal

abbrev pub invariant-loop-b : goal.invariant-loop-b
invariant-loop-b l = record {
  done : (b : ℕ) → b < l.b → bit_at l.x b ≡ entry l.s (l.fn.from + b);
  rest : (b : ℕ) → b < 64 → l.b ≤ b → bit_at l.x b ≡ 0;
}

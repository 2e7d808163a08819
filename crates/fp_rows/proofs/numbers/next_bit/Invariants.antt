use Rattle.std.proofs.Common.{◌≡◌, ◌<◌, ◌≤◌, ◌-◌, ℕ, length}
use Rattle.linear_algebra.specs.Rows.{entry}
use Rattle.fp_rows.specs.Bits.{bits_of}
use Rattle.fp_rows.proofs.numbers.next_bit.Given as goal

abbrev pub invariant-loop-done : goal.invariant-loop-done
invariant-loop-done l = record {
  after : l.fn.from ≤ l.done;
  within : l.done ≤ length (bits_of l.b);
  zero : (j : ℕ) → l.fn.from ≤ j → j < l.done → entry (bits_of l.b) j ≡ 0;
}

abbrev pub decreases-loop-done : goal.decreases-loop-done
decreases-loop-done l = length (bits_of l.b) - l.done

use Rattle.std.proofs.Common.{◌≡◌, ℕ, ◌+◌, ◌*◌, ◌%◌, ◌<◌, ◌≤◌}
use Rattle.group_table.specs.Prime.{prime_value}
use Rattle.linear_algebra.specs.Rows.{entry}
use Rattle.fp_rows.specs.Bits.{bits_of}
use Rattle.fp_rows.proofs.cells.add_bits_to_bytes.Given as goal

abbrev pub invariant-loop-i : goal.invariant-loop-i
invariant-loop-i l = record {
  done : (j : ℕ) → j < l.i → entry l.v j ≡
      (entry l.fn.v j + l.c * entry (bits_of l.s) j) % prime_value l.fn.p;
  rest : (j : ℕ) → l.i ≤ j → entry l.v j ≡ entry l.fn.v j;
}

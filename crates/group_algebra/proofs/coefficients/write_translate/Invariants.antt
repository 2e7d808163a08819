use Rattle.std.proofs.Common.{◌≡◌, ◌-◌, ◌<◌, ◌≤◌, length, ℕ}
use Rattle.group_table.specs.Tables.{order, product, IsInverse}
use Rattle.linear_algebra.specs.Rows.{entry}
use Rattle.fp_rows.specs.Refs.{entries_of}
use Rattle.group_algebra.proofs.coefficients.write_translate.Given as goal

abbrev pub invariant-loop-k : goal.invariant-loop-k
invariant-loop-k l = record {
  within : l.k ≤ length (entries_of l.a);
  prime : l.out.p ≡ l.group.p;
  count : length l.out.entries ≡ order l.group;
  done : (i j : ℕ) → IsInverse l.group l.g i → j < order l.group → product l.group i j < l.k
      → entry l.out.entries j ≡ entry (entries_of l.a) (product l.group i j);
  rest : (i j : ℕ) → IsInverse l.group l.g i → j < order l.group → l.k ≤ product l.group i j
      → entry l.out.entries j ≡ 0;
}

abbrev pub decreases-loop-k : goal.decreases-loop-k
decreases-loop-k l = length (entries_of l.a) - l.k

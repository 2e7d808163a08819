use Rattle.std.proofs.Common.{◌*◌, ◌<◌}
use Rattle.linear_algebra.specs.Modular.{IsCongruent, sum_below}
use Rattle.group_table.specs.Prime.{prime_value}
use Rattle.linear_algebra.specs.Rows.{entry, row, pivot}
use Rattle.fp_rows.specs.Lists.{lists}
use Rattle.fp_rows.specs.Refs.{entries_of}
use Rattle.fp_rows.proofs.membership.value_at.Given as goal

abbrev pub invariant-loop-i : goal.invariant-loop-i
invariant-loop-i l = record {
  below : l.sum < prime_value l.fn.p;
  value : IsCongruent (prime_value l.fn.p) l.sum
      (sum_below l.i (λ i. entry (entries_of l.v) (pivot (row (lists l.rows) i)) * entry
      (row (lists l.rows) i) l.j));
}

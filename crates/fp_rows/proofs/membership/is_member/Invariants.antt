use Rattle.std.proofs.Common.{ℕ, ◌<◌}
use Rattle.linear_algebra.specs.Modular.{IsCongruent}
use Rattle.group_table.specs.Prime.{prime_value}
use Rattle.linear_algebra.specs.Rows.{entry, row, pivot, combination}
use Rattle.fp_rows.specs.Lists.{lists}
use Rattle.fp_rows.specs.Refs.{entries_of}
use Rattle.fp_rows.proofs.membership.is_member.Given as goal

abbrev pub invariant-loop-j : goal.invariant-loop-j
invariant-loop-j l = (j : ℕ) → j < l.j → IsCongruent (prime_value l.p) (entry (entries_of l.v) j)
    (combination (λ i. entry (entries_of l.v) (pivot (row (lists l.rows) i))) (lists l.rows) j)

use Rattle.std.proofs.Common.{◌≡◌, ℕ, ◌<◌, List, length}
use Rattle.linear_algebra.specs.Rows.{entry, row, IsRow, IsCombination}
use Rattle.fp_rows.specs.Lists.{lists}
use Rattle.linear_algebra.proofs.Reducing.{IsReducedUpTo}
use Rattle.fp_rows.proofs.kernels.reduce_pair.Given as goal

abbrev pub invariant-loop-i : goal.invariant-loop-i
invariant-loop-i l = record {
  prime : l.v.p ≡ l.fn.v.p;
  made_prime : l.u.p ≡ l.fn.u.p;
  reduced : IsReducedUpTo l.fn.v.p (length l.fn.v.entries) (lists l.rows) l.fn.v.entries l.v.entries l.i;
  made_is : IsRow l.fn.v.p (length l.fn.u.entries) l.u.entries;
  maps : (generators : List (List ℕ))
      → ((i : ℕ) → i < length (lists l.rows)
      → IsCombination l.fn.v.p (entry (row (lists l.made) i)) generators (entry (row (lists l.rows) i)))
      → IsCombination l.fn.v.p (entry l.fn.u.entries) generators (entry l.fn.v.entries)
      → IsCombination l.fn.v.p (entry l.u.entries) generators (entry l.v.entries);
  kept : (s : ℕ) → ((i : ℕ) → i < length (lists l.made) → entry (row (lists l.made) i) s ≡ 0)
      → entry l.u.entries s ≡ entry l.fn.u.entries s;
}

use Rattle.std.proofs.Common.{◌≡◌, ℕ, ◌<◌, List, length}
use Rattle.linear_algebra.specs.Rows.{entry, row, IsMatrix, IsCombination}
use Rattle.fp_rows.specs.Lists.{lists, AreOver}
use Rattle.fp_rows.proofs.ClearingLemmas.{AreClearedUpTo}
use Rattle.fp_rows.proofs.kernels.clear_pairs.Given as goal

abbrev pub invariant-loop-i : goal.invariant-loop-i
invariant-loop-i l = record {
  over : AreOver l.v.p l.rows;
  made_over : AreOver l.v.p l.made;
  made_count : length l.made ≡ length l.fn.made;
  cleared : AreClearedUpTo l.v.p (length l.v.entries) l.t l.v.entries (lists l.fn.rows) (lists l.rows) l.i;
  made_rows : IsMatrix l.v.p (length l.u.entries) (lists l.made);
  maps : (generators : List (List ℕ))
      → IsCombination l.v.p (entry l.u.entries) generators (entry l.v.entries)
      → ((i : ℕ) → i < length l.fn.rows → IsCombination l.v.p (entry (row (lists l.fn.made) i)) generators
      (entry (row (lists l.fn.rows) i)))
      → (i : ℕ) → i < length l.fn.rows → IsCombination l.v.p (entry (row (lists l.made) i)) generators
      (entry (row (lists l.rows) i));
  kept : (i s : ℕ) → i < length l.fn.rows → entry l.u.entries s ≡ 0
      → entry (row (lists l.made) i) s ≡ entry (row (lists l.fn.made) i) s;
}

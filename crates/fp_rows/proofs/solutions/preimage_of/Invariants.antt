use Rattle.std.proofs.Common.{◌≡◌, ℕ, ◌*◌, ◌<◌, List, length}
use Rattle.linear_algebra.specs.Modular.{sum_below}
use Rattle.linear_algebra.specs.Rows.{entry, row, pivot, IsRow, IsCombination}
use Rattle.linear_algebra.specs.Choices.{ArePreimages}
use Rattle.group_table.specs.Prime.{prime_value}
use Rattle.fp_rows.specs.Refs.{entries_of}
use Rattle.fp_rows.proofs.solutions.preimage_of.Given as goal

abbrev pub invariant-loop-i : goal.invariant-loop-i
invariant-loop-i l = record {
  prime : l.u.p ≡ prime_value l.fn.p;
  is_row : IsRow (prime_value l.fn.p) l.fn.n l.u.entries;
  maps : (rows : List (List ℕ)) → length rows ≡ l.fn.n
      → ArePreimages (prime_value l.fn.p) rows l.fn.s.kernel.rows l.fn.s.image.rows l.fn.s.preimages.rows
      → IsCombination (prime_value l.fn.p) (entry l.u.entries) rows
      (λ j. sum_below l.i (λ i. entry (entries_of l.fn.target) (pivot (row l.fn.s.image.rows i)) * entry
      (row l.fn.s.image.rows i) j));
  zeros : (rows : List (List ℕ)) (j : ℕ) → length rows ≡ l.fn.n
      → ArePreimages (prime_value l.fn.p) rows l.fn.s.kernel.rows l.fn.s.image.rows l.fn.s.preimages.rows
      → j < length l.fn.s.kernel.rows → entry l.u.entries (pivot (row l.fn.s.kernel.rows j)) ≡ 0;
}

use Rattle.std.proofs.Common.{◌≡◌}
use Rattle.linear_algebra.specs.Rows.{entry, row, pivot}
use Rattle.fp_rows.specs.Refs.{entries_of}
use Rattle.linear_algebra.proofs.CombinationRows.{IsPartialCombination}
use Rattle.min_res.proofs.sections.write_section.Given as goal

abbrev pub invariant-loop-k : goal.invariant-loop-k
invariant-loop-k l = record {
  prime : l.out.p ≡ l.rows.p;
  sum : IsPartialCombination l.rows.p l.rows.width
      (λ k. entry (entries_of l.v) (pivot (row l.list.rows k))) l.rows.rows l.k l.out.entries;
}

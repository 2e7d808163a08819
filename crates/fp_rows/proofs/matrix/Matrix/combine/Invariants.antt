use Rattle.std.proofs.Common.{◌≡◌}
use Rattle.linear_algebra.specs.Rows.{entry}
use Rattle.linear_algebra.proofs.CombinationRows.{IsPartialCombination}
use Rattle.fp_rows.specs.Refs.{entries_of}
use Rattle.fp_rows.proofs.Turns.{AreLeft}
use Rattle.fp_rows.proofs.matrix.Matrix.combine.Given as goal

abbrev pub invariant-loop-k : goal.invariant-loop-k
invariant-loop-k l = record {
  left : AreLeft l.self l.k l.row-iterator;
  prime : l.out.p ≡ l.self.p;
  sum : IsPartialCombination l.self.p l.self.width (entry (entries_of l.u)) l.self.rows l.k l.out.entries;
}

use Rattle.std.proofs.Common.{length}
use Rattle.fp_rows.specs.Lists.{lists, AreOver}
use Rattle.fp_rows.proofs.ClearingLemmas.{AreClearedUpTo}
use Rattle.fp_rows.proofs.elimination.clear_column.Given as goal

abbrev pub invariant-loop-r : goal.invariant-loop-r
invariant-loop-r l = record {
  over : AreOver l.v.p l.rows;
  cleared : AreClearedUpTo l.v.p (length l.v.entries) l.t l.v.entries (lists l.fn.rows)
      (lists l.rows) l.r-index;
}

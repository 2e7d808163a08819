use Rattle.std.proofs.Common.{length, ◌≤◌}
use Rattle.fp_rows.specs.Eliminations.{IsElimination}
use Rattle.fp_rows.proofs.kernels.eliminate.Given as goal

abbrev pub invariant-loop-k : goal.invariant-loop-k
invariant-loop-k l = record {
  below : l.k ≤ length l.m.rows;
  state : IsElimination l.m.p l.m.width l.m.rows l.k l.e;
}

abbrev pub decreases-loop-k : goal.decreases-loop-k
decreases-loop-k l = l.k

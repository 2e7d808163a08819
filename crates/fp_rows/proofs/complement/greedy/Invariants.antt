use Rattle.std.proofs.Common.{◌≡◌, map}
use Rattle.linear_algebra.specs.Rows.{pivot}
use Rattle.linear_algebra.proofs.GreedyTurns.{IsGreedyTurn}
use Rattle.fp_rows.specs.Lists.{lists, AreOver}
use Rattle.fp_rows.proofs.complement.greedy.Given as goal

abbrev pub invariant-loop-i : goal.invariant-loop-i
invariant-loop-i l = record {
  turn : IsGreedyTurn l.s.p l.s.width l.s.rows l.t.rows l.i l.positions (lists l.rows.items);
  over : AreOver l.s.p l.rows.items;
  pivots_are : l.pivots.items ≡ map pivot (lists l.rows.items);
}

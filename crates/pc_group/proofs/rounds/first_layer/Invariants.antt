-- The layers of the m generators after g_(n-m) have no false test, and the table is the product of the first
-- of them.
use Rattle.std.proofs.Common.{◌≡◌, suc, ◌-◌, None}
use Rattle.power_commutator.specs.Presentations.{tests, first_false}
use Rattle.pc_group.specs.Squares.{IsTableOf}
use Rattle.pc_group.proofs.rounds.first_layer.Given as goal

abbrev pub invariant-loop-m : goal.invariant-loop-m
invariant-loop-m l = record {
  faultless : first_false (tests l.p (suc (l.n - l.m)) l.m) ≡ None;
  table_is : IsTableOf l.p (suc (l.n - l.m)) l.m l.table;
}

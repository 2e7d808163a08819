use Rattle.std.proofs.Common.{◌≡◌}
use Rattle.group_table.specs.Prime.{prime_value}
use Rattle.row_tests.proofs.given.matrix_of.Given as goal

abbrev pub invariant-loop-r : goal.invariant-loop-r
invariant-loop-r g l = (l.m.p ≡ prime_value l.p) × (l.m.width ≡ l.width)

use Rattle.std.proofs.Common.{◌≡◌, length}
use Rattle.polynomial_tests.proofs.degrees.relation.Given as goal

abbrev pub invariant-loop-j : goal.invariant-loop-j
invariant-loop-j l = record { prime : l.row.p ≡ 2; length_is : length l.row.entries ≡ l.width }

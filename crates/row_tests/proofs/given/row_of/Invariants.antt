use Rattle.std.proofs.Common.{◌≡◌, length}
use Rattle.group_table.specs.Prime.{prime_value}
use Rattle.row_tests.proofs.given.row_of.Given as goal

abbrev pub invariant-loop-i : goal.invariant-loop-i
invariant-loop-i g l = (l.row.p ≡ prime_value l.p) × (length l.row.entries ≡ length l.entries)

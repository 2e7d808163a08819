-- The numbers before k stand in the list.
use Rattle.std.proofs.Common.{◌≡◌, ◌/◌, get_or}
use Rattle.pc_group.specs.Tables.{Each}
use Rattle.pc_group.proofs.layer_lists.scaled.Given as goal

abbrev pub invariant-loop-k : goal.invariant-loop-k
invariant-loop-k l = Each (λ k x. x ≡ get_or l.numbers k 0 / l.divisor) l.k l.out.items

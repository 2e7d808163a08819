-- The elements before j stand in the list.
use Rattle.std.proofs.Common.{◌≡◌, ◌+◌, ◌*◌, ◌<◌}
use Rattle.pc_group.specs.Tables.{at, Each}
use Rattle.pc_group.specs.Squares.{times}
use Rattle.pc_group.proofs.layer_lists.element_list.Given as goal

abbrev pub invariant-loop-j : goal.invariant-loop-j
invariant-loop-j l =
    Each (λ j x. (l.i < j → x ≡ times l.table (at l.generators j) (at l.commutators (j * (l.n + 1) + l.i)))
    × x < l.table.width) l.j l.out.items

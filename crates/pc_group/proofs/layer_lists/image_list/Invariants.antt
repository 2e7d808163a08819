-- The images before k stand in the list.
use Rattle.std.proofs.Common.{◌≡◌, ◌+◌, ◌-◌, ◌<◌, length}
use Rattle.power_commutator.specs.Presentations.{ascending, word_of}
use Rattle.pc_group.specs.Tables.{Each, at}
use Rattle.pc_group.specs.Squares.{times}
use Rattle.pc_group.proofs.layer_lists.image_list.Given as goal

abbrev pub invariant-loop-k : goal.invariant-loop-k
invariant-loop-k l =
    Each (λ k x. (x ≡ ascending (times l.table) 0 (at l.elements) (l.i + 1)
    (word_of l.prime (length l.elements - (l.i + 1)) k)) × x < l.table.width) l.k l.out.items

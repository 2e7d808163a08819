use Rattle.std.proofs.Common.{◌≡◌, ◌++◌, drop}
use Rattle.pc_group.specs.Collection.{passed}
use Rattle.pc_group.proofs.collection.passed_by.Given as goal

abbrev pub invariant-loop-j : goal.invariant-loop-j
invariant-loop-j l = l.uncollected.items ++ passed l.presentation l.k
    (drop l.j-index l.right) ≡ passed l.presentation l.k l.right

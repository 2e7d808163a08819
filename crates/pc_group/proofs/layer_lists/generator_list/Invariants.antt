-- The numbers before j stand in the list.
use Rattle.std.proofs.Common.{◌≡◌, suc, ◌^◌, ◌-◌, ◌<◌}
use Rattle.pc_group.specs.Tables.{Each}
use Rattle.pc_group.proofs.layer_lists.generator_list.Given as goal

abbrev pub invariant-loop-j : goal.invariant-loop-j
invariant-loop-j l = Each (λ j x. (l.i < j → x ≡ l.prime ^ (j - suc l.i))
    × x < l.prime ^ (l.n - l.i)) l.j l.out.items

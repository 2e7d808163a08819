-- y is the power k.
use Rattle.std.proofs.Common.{◌≡◌, ◌^◌}
use Rattle.pc_group.proofs.layer_lists.small_power.Given as goal

abbrev pub invariant-loop-k : goal.invariant-loop-k
invariant-loop-k l = l.y ≡ l.prime ^ l.k

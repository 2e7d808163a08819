-- y is x to the power k.
use Rattle.std.proofs.Common.{◌≡◌, ◌<◌}
use Rattle.power_commutator.specs.Presentations.{pow}
use Rattle.pc_group.specs.Squares.{times}
use Rattle.pc_group.proofs.square.Square.power.Given as goal

abbrev pub invariant-loop-k : goal.invariant-loop-k
invariant-loop-k l = (l.y ≡ pow (times l.self) 0 l.fn.x l.k) × l.y < l.self.width

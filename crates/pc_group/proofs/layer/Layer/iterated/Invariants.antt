-- y is the map applied k times.
use Rattle.std.proofs.Common.{◌≡◌, ◌<◌}
use Rattle.power_commutator.specs.Presentations.{iterate}
use Rattle.pc_group.specs.Tables.{at}
use Rattle.pc_group.proofs.layer.Layer.iterated.Given as goal

abbrev pub invariant-loop-k : goal.invariant-loop-k
invariant-loop-k l = (l.y ≡ iterate (at l.self.images.items) l.k l.fn.x) × l.y < l.self.table.width

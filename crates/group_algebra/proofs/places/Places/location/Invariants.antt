use Rattle.std.proofs.Common.{◌≡◌, ◌*◌, ◌≤◌}
use Rattle.group_algebra.specs.Places.{start_at}
use Rattle.group_algebra.proofs.places.Places.location.Given as goal

abbrev pub invariant-loop-layer : goal.invariant-loop-layer
invariant-loop-layer l = (l.start ≡ start_at l.self l.layer) × (l.rank * l.start ≤ l.place)

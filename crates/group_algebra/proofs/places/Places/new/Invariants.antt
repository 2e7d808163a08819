use Rattle.group_algebra.specs.Places.{AreSpots}
use Rattle.group_algebra.proofs.places.Places.new.Given as goal

abbrev pub invariant-loop-k : goal.invariant-loop-k
invariant-loop-k l = AreSpots l.sizes.items l.k l.starts.items l.spans.items

use Rattle.std.proofs.Common.{◌≡◌}
use Rattle.std.specs.Prelude.{IfSome}
use Rattle.ring_tests.proofs.rings.presented.Given as goal

abbrev pub invariant-loop-d : goal.invariant-loop-d
invariant-loop-d g l = IfSome l.ring.group (λ G. G ≡ l.resolution.group)

use Rattle.std.proofs.Common.{◌≡◌}
use Rattle.std.specs.Prelude.{IfSome}
use Rattle.run_tests.proofs.candidates.counts_each_degree.Given as goal

abbrev pub invariant-loop-d : goal.invariant-loop-d
invariant-loop-d g l = IfSome l.ring.group (λ G. G ≡ l.resolution.group)

use Rattle.std.proofs.Common.{◌≡◌}
use Rattle.class_tests.proofs.resolutions.extend.Given as goal

abbrev pub invariant-loop-d : goal.invariant-loop-d
invariant-loop-d g l = l.resolution.group ≡ l.initial.resolution.group

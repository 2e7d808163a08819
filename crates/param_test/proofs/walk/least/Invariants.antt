use Rattle.std.proofs.Common.{◌≡◌, ◌+◌, ◌-◌, ◌*◌, ◌≤◌}
use Rattle.param_test.specs.Walks.{least}
use Rattle.param_test.proofs.walk.least.Given as goal

abbrev pub invariant-loop-i : goal.invariant-loop-i
invariant-loop-i l = record {
  small : l.sum ≤ 24 * (l.i - l.from);
  value : l.sum + least l.degrees (l.from + l.k - l.i) l.i ≡ least l.degrees l.k l.from;
}

use Rattle.std.proofs.Common.{◌≡◌, ◌+◌, ◌*◌, ◌≤◌, drop}
use Rattle.param_test.specs.Tuples.{total}
use Rattle.param_test.proofs.walk.total.Given as goal

abbrev pub invariant-loop-i : goal.invariant-loop-i
invariant-loop-i l = record {
  small : l.sum ≤ 24 * l.i-index;
  value : l.sum + total l.degrees (drop l.i-index l.tuple) ≡ total l.degrees l.tuple;
}

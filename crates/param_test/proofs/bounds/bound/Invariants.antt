use Rattle.std.proofs.Common.{◌≡◌, ◌+◌, ◌*◌, ◌≤◌, drop}
use Rattle.std.specs.Prelude.{max}
use Rattle.param_test.specs.Bounds.{greatest, excess}
use Rattle.param_test.proofs.bounds.bound.Given as goal

abbrev pub invariant-loop-n : goal.invariant-loop-n
invariant-loop-n l = record {
  small : l.excess ≤ 24 * l.n-index;
  low : l.greatest ≤ 24;
  greatest_is : max l.greatest (greatest (drop l.n-index l.degrees)) ≡ greatest l.degrees;
  excess_is : l.excess + excess (drop l.n-index l.degrees) ≡ excess l.degrees;
}

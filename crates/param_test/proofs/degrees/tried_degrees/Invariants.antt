use Rattle.std.proofs.Common.{◌≡◌, ℕ, ◌-◌, ◌<◌, ◌≤◌, length}
use Rattle.param_test.specs.Counting as counting
use Rattle.param_test.proofs.degrees.tried_degrees.Given as goal

-- there are few monomials in the degrees before e
abbrev pub invariant-loop-e : goal.invariant-loop-e
invariant-loop-e l = record {
  low : 1 ≤ l.e;
  number : l.number ≡ counting.number (length l.ring.degrees) (l.e - 1);
  few : l.number ≤ 1500;
  before : (d : ℕ) → d < l.e → counting.number (length l.ring.degrees) d ≤ 1500;
}

use Rattle.std.proofs.Common.{ℕ, ◌-◌, ◌<◌, ◌≤◌}
use Rattle.param_test.specs.Finiteness.{AllInIdeal}
use Rattle.param_test.proofs.degrees.least_degree.Given as goal

-- the least degree lies above `below` and at most at `least`
abbrev pub invariant-loop-below : goal.invariant-loop-below
invariant-loop-below l = record {
  apart : l.below < l.least;
  high : l.least ≤ l.last;
  all : AllInIdeal l.ring l.fs l.least;
  before : (d : ℕ) → 1 ≤ d → d ≤ l.below → AllInIdeal l.ring l.fs d → ⊥;
}

abbrev pub decreases-loop-below : goal.decreases-loop-below
decreases-loop-below l = l.least - l.below

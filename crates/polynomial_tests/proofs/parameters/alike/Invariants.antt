use Rattle.std.proofs.Common.{◌≡◌, ◌≤◌, length}
use Rattle.std.specs.Prelude.{All}
use Rattle.polynomial_tests.proofs.parameters.alike.Given as goal

abbrev pub invariant-loop-i : goal.invariant-loop-i
invariant-loop-i l = record {
  count : length l.gens.degrees ≡ l._i;
  alike : All (λ d. d ≤ l.degree) l.gens.degrees;
}

-- No more were counted than were looked at.
use Rattle.std.proofs.Common.{◌≤◌}
use Rattle.presentation_tests.proofs.collection.count_of_order.Given as goal

abbrev pub invariant-loop-e : goal.invariant-loop-e
invariant-loop-e l = l.count ≤ l.e

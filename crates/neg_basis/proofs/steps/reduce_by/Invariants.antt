use Rattle.std.proofs.Common.{◌≡◌}
use Rattle.linear_algebra.proofs.Reducing.{IsReducedUpTo}
use Rattle.neg_basis.proofs.steps.reduce_by.Given as goal

abbrev pub invariant-loop-i : goal.invariant-loop-i
invariant-loop-i l = record {
  prime : l.v.p ≡ l.fn.v.p;
  reduced : IsReducedUpTo l.vectors.p l.vectors.width l.vectors.rows l.fn.v.entries l.v.entries l.i;
}

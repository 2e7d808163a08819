use Rattle.std.proofs.Common.{◌≡◌, length}
use Rattle.fp_rows.specs.Lists.{lists}
use Rattle.linear_algebra.proofs.Reducing.{IsReducedUpTo}
use Rattle.fp_rows.proofs.elimination.reduce_by.Given as goal

abbrev pub invariant-loop-i : goal.invariant-loop-i
invariant-loop-i l = record {
  prime : l.v.p ≡ l.fn.v.p;
  reduced : IsReducedUpTo l.fn.v.p (length l.fn.v.entries) (lists l.rows) l.fn.v.entries l.v.entries l.i;
}

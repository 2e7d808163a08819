use Rattle.std.proofs.Common.{◌≡◌, ◌-◌, ◌%◌, ◌<◌, ◌≤◌, length}
use Rattle.linear_algebra.specs.Modular.{sum_below}
use Rattle.linear_algebra.specs.Rows.{entry}
use Rattle.fp_rows.specs.Refs.{entries_of, modulus_of}
use Rattle.fp_rows.proofs.row_ref.RowRef.sum.Given as goal

abbrev pub invariant-loop-i : goal.invariant-loop-i
invariant-loop-i l = record {
  within : l.i ≤ length (entries_of l.self);
  below : l.sum < modulus_of l.self;
  value : l.sum ≡ sum_below l.i (entry (entries_of l.self)) % modulus_of l.self;
}

abbrev pub decreases-loop-i : goal.decreases-loop-i
decreases-loop-i l = length (entries_of l.self) - l.i

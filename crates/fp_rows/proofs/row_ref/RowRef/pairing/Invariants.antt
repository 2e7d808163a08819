use Rattle.std.proofs.Common.{◌≡◌, ◌*◌, ◌%◌, ◌<◌}
use Rattle.linear_algebra.specs.Modular.{sum_below}
use Rattle.linear_algebra.specs.Rows.{entry}
use Rattle.fp_rows.specs.Refs.{entries_of, modulus_of}
use Rattle.fp_rows.proofs.row_ref.RowRef.pairing.Given as goal

abbrev pub invariant-loop-i : goal.invariant-loop-i
invariant-loop-i l = record {
  below : l.sum < modulus_of l.self;
  value : l.sum
      ≡ sum_below l.i (λ i. entry (entries_of l.self) i * entry (entries_of l.other) i) % modulus_of l.self;
}

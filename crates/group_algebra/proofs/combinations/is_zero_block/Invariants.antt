use Rattle.std.proofs.Common.{◌≡◌, ◌<◌, ℕ}
use Rattle.linear_algebra.specs.Rows.{entry}
use Rattle.radical_layers.specs.Placing.{place_of}
use Rattle.fp_rows.specs.Refs.{entries_of}
use Rattle.group_algebra.specs.Places.{start_at}
use Rattle.group_algebra.proofs.combinations.is_zero_block.Given as goal

abbrev pub invariant-loop-i : goal.invariant-loop-i
invariant-loop-i l = record {
  start : l.start ≡ start_at l.places l.i;
  zero : (k : ℕ) → k < start_at l.places l.i
      → entry (entries_of l.v) (place_of l.places l.rank l.block k) ≡ 0;
}

use Rattle.std.proofs.Common.{◌≡◌, ◌<◌, ℕ, length}
use Rattle.linear_algebra.specs.Rows.{entry, pairing, row}
use Rattle.fp_rows.specs.Refs.{entries_of}
use Rattle.chain_lift.proofs.products.write_pairings.Given as goal

abbrev pub invariant-loop-i : goal.invariant-loop-i
invariant-loop-i l = record {
  prime : l.out.p ≡ l.initial.out.p;
  count : length l.out.entries ≡ length l.initial.out.entries;
  each : (i : ℕ) → i < l.i → entry l.out.entries i ≡ pairing l.rows.p (entries_of l.a) (row l.rows.rows i);
}

use Rattle.std.proofs.Common.{◌≡◌, ◌*◌}
use Rattle.linear_algebra.specs.Rows.{entry}
use Rattle.fp_rows.specs.Refs.{entries_of}
use Rattle.group_algebra.specs.Places.{start_at}
use Rattle.group_algebra.proofs.LayerPlaces.{AreLayersGained}
use Rattle.group_algebra.proofs.combinations.add_to_block.Given as goal

abbrev pub invariant-loop-i : goal.invariant-loop-i
invariant-loop-i l = record {
  prime : l.out.p ≡ l.fn.out.p;
  start : l.start ≡ start_at l.places l.i;
  layers : AreLayersGained l.fn.out.p l.places l.rank l.block (λ k. l.c * entry (entries_of l.r) k)
      l.fn.out.entries l.i l.out.entries;
}

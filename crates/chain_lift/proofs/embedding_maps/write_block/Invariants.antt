use Rattle.std.proofs.Common.{◌≡◌, ◌<◌, ℕ, length}
use Rattle.group_table.specs.Tables.{order}
use Rattle.linear_algebra.specs.Rows.{entry}
use Rattle.radical_layers.specs.Placing.{place_of}
use Rattle.fp_rows.specs.Refs.{entries_of}
use Rattle.group_algebra.specs.Coordinates.{sizes}
use Rattle.chain_lift.proofs.embedding_maps.write_block.Given as goal

abbrev pub invariant-loop-m : goal.invariant-loop-m
invariant-loop-m l = record {
  prime : l.block.p ≡ l.initial.block.p;
  count : length l.block.entries ≡ order l.algebra.table;
  each : (i : ℕ) → i < l.m → entry l.block.entries i ≡ entry (entries_of l.x)
      (place_of (sizes l.algebra) l.rank l.k i);
}

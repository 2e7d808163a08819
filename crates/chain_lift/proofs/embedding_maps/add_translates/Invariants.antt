use Rattle.std.proofs.Common.{◌≡◌, ◌*◌, length}
use Rattle.group_table.specs.Tables.{order}
use Rattle.linear_algebra.specs.Rows.{IsRow}
use Rattle.fp_rows.specs.Refs.{entries_of}
use Rattle.chain_lift.proofs.EmbeddingRows.{HasGained}
use Rattle.chain_lift.proofs.embedding_maps.add_translates.Given as goal

abbrev pub invariant-loop-e : goal.invariant-loop-e
invariant-loop-e l = record {
  moved_prime : l.moved.p ≡ l.g.table.p;
  moved_length : length l.moved.entries ≡ order l.g.table * l.rank;
  prime : l.out.p ≡ l.g.table.p;
  is_row : IsRow l.g.table.p (order l.g.table * l.rank) l.out.entries;
  gained : HasGained l.g l.subgroup.images l.rank (entries_of l.coefficients) (entries_of l.v)
      l.initial.out.entries l.e
      l.out.entries;
}

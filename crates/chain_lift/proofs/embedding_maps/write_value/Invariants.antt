use Rattle.std.proofs.Common.{◌≡◌, ◌*◌, length}
use Rattle.group_table.specs.Tables.{order}
use Rattle.fp_rows.specs.Refs.{entries_of}
use Rattle.chain_lift.specs.EmbeddingRows.{AreScratchRows}
use Rattle.chain_lift.proofs.EmbeddingRows.{IsPartialValue}
use Rattle.chain_lift.proofs.embedding_maps.write_value.Given as goal

abbrev pub invariant-loop-k : goal.invariant-loop-k
invariant-loop-k l = record {
  scratch : AreScratchRows l.e l.g l.rank l.scratch.block l.scratch.coefficients l.scratch.moved;
  prime : l.out.p ≡ l.g.table.p;
  length_is : length l.out.entries ≡ order l.g.table * l.rank;
  partial : IsPartialValue l.g l.subgroup.images l.rank l.e l.rows.rows (entries_of l.x) l.k l.out.entries;
}

use Rattle.std.proofs.Common.{◌≡◌, ◌*◌, length}
use Rattle.group_table.specs.Tables.{order}
use Rattle.fp_rows.specs.Refs.{entries_of}
use Rattle.fp_rows.proofs.Turns.{AreLeft}
use Rattle.group_algebra.proofs.BlockSums.{IsRowSum}
use Rattle.group_algebra.proofs.algebra.Algebra.apply.Given as goal

abbrev pub invariant-loop-index : goal.invariant-loop-index
invariant-loop-index l = record {
  left : AreLeft l.rows l.index l.row-iterator;
  prime : l.out.p ≡ l.self.table.p;
  length_is : length l.out.entries ≡ order l.self.table * l.rank;
  sum : IsRowSum l.self l.rank l.rows.rows (entries_of l.v) l.index l.out.entries;
}

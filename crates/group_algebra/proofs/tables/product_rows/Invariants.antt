use Rattle.std.proofs.Common.{◌≡◌, ◌*◌}
use Rattle.group_table.specs.Tables.{order}
use Rattle.group_algebra.specs.Tables.{HasShape, IsProductRow, EachRow}
use Rattle.group_algebra.proofs.tables.product_rows.Given as goal

abbrev pub invariant-loop-l : goal.invariant-loop-l
invariant-loop-l l = record {
  order_is : l.n ≡ order l.group.table;
  shape : HasShape l.group (l.l * order l.group.table) l.m;
  rows : EachRow (IsProductRow l.group) l.m.rows;
}

use Rattle.std.proofs.Common.{◌≡◌, length}
use Rattle.group_table.specs.Tables.{order}
use Rattle.group_algebra.specs.Tables.{HasShape, IsElementRow, EachRow}
use Rattle.group_algebra.proofs.tables.element_rows.Given as goal

abbrev pub invariant-loop-g : goal.invariant-loop-g
invariant-loop-g l =
    (l.n ≡ order l.group.table)
    × HasShape l.group l.g l.m
    × ((l.a.p ≡ l.group.table.p) × (length l.a.entries ≡ order l.group.table))
    × ((l.sums.p ≡ l.group.table.p) × (length l.sums.entries ≡ order l.group.table))
    × ((l.out.p ≡ l.group.table.p) × (length l.out.entries ≡ order l.group.table))
    × EachRow (IsElementRow l.group) l.m.rows

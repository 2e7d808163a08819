use Rattle.std.proofs.Common.{◌≡◌, ◌≤◌, length}
use Rattle.group_table.specs.Tables.{order}
use Rattle.group_algebra.specs.Tables.{HasShape, IsTranslateRow, EachRow}
use Rattle.group_algebra.proofs.tables.translate_rows.Given as goal

abbrev pub invariant-loop-i : goal.invariant-loop-i
invariant-loop-i l =
    ((l.n ≡ order l.group.table) × (l.n ≤ 256))
    × HasShape l.group l.i l.m
    × ((l.moved.p ≡ l.group.table.p) × (length l.moved.entries ≡ order l.group.table))
    × ((l.out.p ≡ l.group.table.p) × (length l.out.entries ≡ order l.group.table))
    × EachRow (IsTranslateRow l.group) l.m.rows

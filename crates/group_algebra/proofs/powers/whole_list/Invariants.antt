use Rattle.std.proofs.Common.{◌≡◌, ◌<◌, ℕ, length}
use Rattle.group_table.specs.Tables.{order}
use Rattle.linear_algebra.specs.Rows.{row}
use Rattle.linear_algebra.specs.Kernels.{unit_row}
use Rattle.group_algebra.proofs.powers.whole_list.Given as goal

abbrev pub invariant-loop-i : goal.invariant-loop-i
invariant-loop-i l =
    ((l.m.p ≡ l.group.table.p) × (l.m.width ≡ order l.group.table))
    × ((l.unit.p ≡ l.group.table.p) × (length l.unit.entries ≡ order l.group.table))
    × (l.n ≡ order l.group.table)
    × (length l.m.rows ≡ l.i)
    × ((k : ℕ) → k < l.i → row l.m.rows k ≡ unit_row (order l.group.table) k)

use Rattle.std.proofs.Common.{◌≡◌, ℕ, List, length}
use Rattle.group_table.specs.Tables.{order}
use Rattle.group_algebra.proofs.FirstLayers.{AreFirstLayers, rows_of, sizes_of}
use Rattle.group_algebra.proofs.layers.layer_basis.Given as goal

abbrev pub invariant-loop-rows : goal.invariant-loop-rows
invariant-loop-rows l =
    ((l.rows.p ≡ l.group.table.p) × (l.rows.width ≡ order l.group.table))
    × ((l.power.p ≡ l.group.table.p) × (l.power.width ≡ order l.group.table))
    × ((Es : List (List (List ℕ))) × (xs : List (List ℕ))
    × (l.rows.rows ≡ rows_of Es xs)
    × (l.sizes.items ≡ sizes_of Es xs)
    × (length xs ≡ length Es)
    × AreFirstLayers l.group Es xs l.power.rows)

abbrev pub decreases-loop-rows : goal.decreases-loop-rows
decreases-loop-rows l = length l.power.rows

use Rattle.std.proofs.Common.{◌≡◌, map, take}
use Rattle.linear_algebra.specs.Rows.{pivot}
use Rattle.fp_rows.specs.Lists.{lists}
use Rattle.fp_rows.proofs.from_rows.pivots_of.Given as goal

-- the pivots of the rows before
abbrev pub invariant-loop-r : goal.invariant-loop-r
invariant-loop-r l = l.pivots.items ≡ take l.r-index (map pivot (lists l.rows))

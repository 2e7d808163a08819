use Rattle.std.proofs.Common.{◌≡◌, take}
use Rattle.linear_algebra.specs.Choices.{rows_at}
use Rattle.min_res.proofs.matrices.chosen_rows.Given as goal

abbrev pub invariant-loop-i : goal.invariant-loop-i
invariant-loop-i l = l.rows ≡ record l.list { rows = rows_at l.list.rows (take l.i l.positions) }

use Rattle.std.proofs.Common.{◌≡◌, take}
use Rattle.fp_rows.proofs.complement.copies_of.Given as goal

abbrev pub invariant-loop-r : goal.invariant-loop-r
invariant-loop-r l = l.copies.items ≡ take l.r-index l.rows

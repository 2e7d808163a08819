use Rattle.std.proofs.Common.{◌-◌, length}
use Rattle.fp_rows.specs.Numbers.{numbers_of}
use Rattle.fp_rows.proofs.PartLemmas.{AreAddedAt}
use Rattle.fp_rows.proofs.cells.add_at.Given as goal

abbrev pub invariant-loop-done : goal.invariant-loop-done
invariant-loop-done l = AreAddedAt l.at l.done (numbers_of l.r) l.fn.b l.b

abbrev pub decreases-loop-done : goal.decreases-loop-done
decreases-loop-done l = length (numbers_of l.r) - l.done

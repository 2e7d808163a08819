use Rattle.std.proofs.Common.{◌+◌, ◌*◌}
use Rattle.linear_algebra.specs.Rows.{entry, row}
use Rattle.group_algebra.proofs.ImageSums.{AreImagesAdded}
use Rattle.group_algebra.proofs.combinations.Images.add_combination.Given as goal

abbrev pub invariant-loop-i : goal.invariant-loop-i
invariant-loop-i l = record {
  added : AreImagesAdded l.fn.sum.p l.fn.sum.entries (λ i j. l.x * (entry l.self.factors.now i
      * entry (row l.self.rows.now.rows (l.self.first + l.k * l.self.step + i)) j)) l.i l.sum;
}

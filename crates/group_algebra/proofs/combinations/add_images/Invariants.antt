use Rattle.std.proofs.Common.{◌+◌, ◌-◌, ◌*◌, ◌≤◌, length}
use Rattle.linear_algebra.specs.Rows.{entry}
use Rattle.fp_rows.specs.Refs.{entries_of}
use Rattle.group_algebra.specs.Gains.{image_at}
use Rattle.group_algebra.proofs.ImageSums.{AreImagesAdded}
use Rattle.group_algebra.proofs.combinations.add_images.Given as goal

abbrev pub invariant-loop-k : goal.invariant-loop-k
invariant-loop-k l = record {
  within : l.k ≤ length (entries_of l.coefficients);
  added : AreImagesAdded l.fn.sum.p l.fn.sum.entries (λ k j. entry (entries_of l.coefficients) k
      * image_at l.images.rows.now.rows l.images.first l.images.step l.images.factors.now
      (l.start + k) j) l.k l.sum;
}

abbrev pub decreases-loop-k : goal.decreases-loop-k
decreases-loop-k l = length (entries_of l.coefficients) - l.k

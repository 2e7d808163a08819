use Rattle.std.proofs.Common.{◌≡◌, ◌*◌, ◌<◌, ℕ, length}
use Rattle.linear_algebra.specs.Modular.{IsCongruent, sum_below}
use Rattle.linear_algebra.specs.Rows.{entry}
use Rattle.radical_layers.specs.Placing.{place_of, size_of}
use Rattle.fp_rows.specs.Refs.{entries_of, modulus_of}
use Rattle.group_algebra.specs.Gains.{image_at}
use Rattle.group_algebra.specs.Places.{start_at}
use Rattle.group_algebra.proofs.combinations.block_image.Given as goal

abbrev pub invariant-loop-i : goal.invariant-loop-i
invariant-loop-i l = record {
  prime : l.sum.p ≡ modulus_of l.v.row;
  count : length l.sum.entries ≡ size_of l.places;
  start : l.start ≡ start_at l.places l.i;
  image : (j : ℕ) → j < size_of l.places → IsCongruent l.sum.p (entry l.sum.entries j)
      (sum_below (start_at l.places l.i) (λ k. entry (entries_of l.v.row) (place_of l.places l.rank l.block k)
      * image_at l.images.rows.now.rows l.images.first l.images.step l.images.factors.now
      k j));
}

use Rattle.std.proofs.Common.{◌≡◌, ℕ, List, ◌+◌, ◌*◌, ◌<◌, arith, sym, ◌∙◌}
use mathlib.Core.Path.{subst}
use Rattle.linear_algebra.specs.Rows.{entry}
use Rattle.fp_rows.specs.Refs.{entries_of}
use Rattle.group_algebra.specs.Gains.{image_at}
use Rattle.group_algebra.proofs.ImageSums.{AreImagesAdded, images-none, images-to, images-near}
use Rattle.group_algebra.proofs.combinations.add_images.Goals as goal

pub loop-k-init : goal.loop-k-init
loop-k-init c =
    let a : List ℕ = entries_of c.args.coefficients in
    let g : ℕ → ℕ → ℕ = λ k j. entry a k * image_at c.args.images.rows.now.rows c.args.images.first
    c.args.images.step c.args.images.factors.now (c.args.start + k) j in
    record {
      within = c.next_place-k.ensures.within;
      added = images-to c.args.sum.now.p c.args.sum.now.entries g 0 c.next_place-k.result c.args.sum.now
          (omega arith) (images-none c.args.sum.now g)
          (λ i l m j. let z : entry a i ≡ 0 = c.next_place-k.ensures.before i l m in rw z (omega arith));
    }

pub loop-k-preserved : goal.loop-k-preserved
loop-k-preserved c =
    let a : List ℕ = entries_of c.args.coefficients in
    let g : ℕ → ℕ → ℕ = λ k j. entry a k * image_at c.args.images.rows.now.rows c.args.images.first
    c.args.images.step c.args.images.factors.now (c.args.start + k) j in
    let p : c.loop-k.sum.p ≡ c.args.sum.now.p = c.loop-k.invariant.added.prime in
    let A : AreImagesAdded c.args.sum.now.p c.args.sum.now.entries g (c.loop-k.k + 1) c.add.new.sum =
    images-near c.args.sum.now.p c.args.sum.now.entries g c.loop-k.k c.loop-k.sum c.add.new.sum
    c.loop-k.invariant.added c.add.ensures.prime c.add.ensures.same_length
    (λ j l. rw (p, c.get.ensures.value) at (c.add.ensures.sums j (omega (
      arith,
      l,
      c.loop-k.invariant.added.count,
    )))) in
    record {
      within = c.next_place-k-in-loop-k.ensures.within;
      added = images-to c.args.sum.now.p c.args.sum.now.entries g (c.loop-k.k + 1)
          c.next_place-k-in-loop-k.result c.add.new.sum c.next_place-k-in-loop-k.ensures.after A
          (λ i l m j. let z : entry a i ≡ 0 = c.next_place-k-in-loop-k.ensures.before i l m in
          rw z (omega arith));
    }

pub add-requires-clause-images : goal.add-requires-clause-images
add-requires-clause-images c = record {
  prime = c.requires.images.prime ∙ sym c.loop-k.invariant.added.prime;
  width = c.requires.images.width ∙ sym c.loop-k.invariant.added.count;
  few = c.requires.images.few;
  factors = λ i l. subst (λ p. entry c.args.images.factors.now i < p) (sym c.loop-k.invariant.added.prime)
      (c.requires.images.factors i l);
}

use Rattle.std.proofs.Common.{◌≡◌, ℕ, ◌*◌, ◌<◌, get_or, length, arith, ap}
use Rattle.std.proofs.Common.{sym, ◌∙◌}
use mathlib.Core.Path.{subst}
use Rattle.std.proofs.lemmas.List.{length-replicate, get_or-replicate}
use Rattle.linear_algebra.specs.Modular.{sum_below}
use Rattle.linear_algebra.specs.Rows.{entry}
use Rattle.linear_algebra.proofs.Congruences.{congruent_eq}
use Rattle.linear_algebra.proofs.Sums.{sum_below-same, sum_below-zero}
use Rattle.radical_layers.specs.Placing.{place_of}
use Rattle.fp_rows.specs.Refs.{entries_of}
use Rattle.fp_rows.specs.Values.{RowValue}
use Rattle.group_algebra.specs.Gains.{image_at}
use Rattle.group_algebra.specs.Places.{start_at}
use Rattle.group_algebra.proofs.LayerPlaces.{image-next, start-next, length-part}
use Rattle.group_algebra.proofs.combinations.block_image.Goals as goal

-- products with zeros
no-terms : (n : ℕ) (x y : ℕ → ℕ) → ((k : ℕ) → k < n → x k ≡ 0) → sum_below n (λ k. x k * y k) ≡ 0
no-terms n x y h = sum_below-same n (λ k. x k * y k) (λ k. 0) (λ k l. rw (h k l) (omega arith))
    ∙ sum_below-zero n

pub loop-i-init : goal.loop-i-init
loop-i-init c = record {
  prime = ap (λ (v : RowValue). v.p) c.zero-sum.ensures ∙ c.prime.ensures ∙ c.requires.images.prime;
  count = ap (λ (v : RowValue). length v.entries) c.zero-sum.ensures ∙ length-replicate c.width.result 0
      ∙ c.width.ensures ∙ c.requires.images.width;
  start = c.requires.begins.start_is;
  image = λ j l. congruent_eq (ap (λ (v : RowValue). entry v.entries j) c.zero-sum.ensures
      ∙ get_or-replicate c.width.result j 0 0 (omega (arith, l, c.width.ensures, c.requires.images.width))
      ∙ sym (no-terms (start_at c.args.places.now c.args.v.layer)
      (λ k. entry (entries_of c.args.v.row) (place_of c.args.places.now c.args.rank c.args.block k))
      (λ k. image_at c.args.images.rows.now.rows c.args.images.first c.args.images.step
      c.args.images.factors.now k j)
      (λ k m. c.requires.begins.zero c.args.block k c.requires.block
      (let e = c.requires.begins.start_is in omega (arith, m, e)))));
}

pub loop-i-preserved : goal.loop-i-preserved
loop-i-preserved c =
    let layer : c.loop-i.i < length c.args.places.now = omega
    (arith, c.loop-i-test.true, c.layers-i-end.ensures) in
    let p : c.add_images.new.sum.p ≡ c.loop-i.sum.p = c.add_images.ensures.prime in
    let n : length (entries_of c.part.result) ≡ get_or c.args.places.now c.loop-i.i 0 =
    ap length c.part.ensures.entries
    ∙ length-part (entries_of c.args.v.row) c.layer_place-at.result c.size-size.result
    (omega (arith, c.layer_place-at.ensures.within, c.size-size.ensures.value, c.requires.length))
    ∙ c.size-size.ensures.value in
    record {
      prime = p ∙ c.loop-i.invariant.prime;
      count = c.add_images.ensures.same_length ∙ c.loop-i.invariant.count;
      start = rw (c.loop-i.invariant.start, c.size-size.ensures.value)
          (sym (start-next c.args.places.now c.loop-i.i layer));
      image = λ j l. rw p (image-next c.loop-i.sum.p c.args.places.now c.args.rank c.args.block c.loop-i.i
          (entries_of c.args.v.row)
          (λ k. image_at c.args.images.rows.now.rows c.args.images.first c.args.images.step
          c.args.images.factors.now k j) (entry c.loop-i.sum.entries j)
          (entry c.add_images.new.sum.entries j) layer
          (c.loop-i.invariant.image j l)
          (rw (
            n,
            c.part.ensures.entries,
            c.layer_place-at.ensures.value,
            c.loop-i.invariant.start,
            c.size-size.ensures.value,
          ) at (c.add_images.ensures.sums j (omega (arith, l, c.loop-i.invariant.count)))));
    }

pub add_images-requires-clause-images : goal.add_images-requires-clause-images
add_images-requires-clause-images c = record {
  prime = c.requires.images.prime ∙ sym c.loop-i.invariant.prime;
  width = c.requires.images.width ∙ sym c.loop-i.invariant.count;
  few = c.requires.images.few;
  factors = λ i l. subst (λ p. entry c.args.images.factors.now i < p) (sym c.loop-i.invariant.prime)
      (c.requires.images.factors i l);
}

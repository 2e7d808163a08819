use Rattle.std.proofs.Common.{◌≡◌, ◌+◌, ◌*◌, ◌<◌, get_or, length, slice_range, arith, sym}
use Rattle.std.proofs.Common.{refl}
use mathlib.Core.Path.{subst}
use Rattle.fp_rows.specs.Parts.{IsZero}
use Rattle.fp_rows.specs.Refs.{entries_of}
use Rattle.group_algebra.specs.Places.{start_at}
use Rattle.group_algebra.proofs.LayerPlaces.{zero-next, zero-part, start-next}
use Rattle.group_algebra.proofs.combinations.is_zero_block.Goals as goal

pub loop-i-preserved : goal.loop-i-preserved
loop-i-preserved c =
    let layer : c.loop-i.i < length c.args.places.now =
    omega (arith, c.loop-i-test.true, c.layers-i-end.ensures) in
    let e : entries_of c.part.result ≡ slice_range (entries_of c.args.v)
    (c.args.rank * start_at c.args.places.now c.loop-i.i + c.args.block * get_or c.args.places.now c.loop-i.i
    0)
    (c.args.rank * start_at c.args.places.now c.loop-i.i + c.args.block * get_or c.args.places.now c.loop-i.i
    0
    + get_or c.args.places.now c.loop-i.i 0)
    = rw (c.layer_place-at.ensures.value, c.size-size.ensures.value) at c.part.ensures.entries in
    record {
      start = rw (c.loop-i.invariant.start, c.size-size.ensures.value) (sym
          (start-next c.args.places.now c.loop-i.i layer));
      zero = zero-next c.args.places.now c.args.rank c.args.block c.loop-i.i (entries_of c.args.v) layer
          (omega (arith, c.layer_place-at.ensures.value, c.layer_place-at.ensures.within, c.requires.length))
          c.loop-i.invariant.zero
          (subst IsZero e (c.if-not-is_zero.ensures.0 refl));
    }

pub returns-then-not-is_zero : goal.returns-then-not-is_zero
returns-then-not-is_zero c =
    let layer : c.loop-i.i < length c.args.places.now =
    omega (arith, c.loop-i-test.true, c.layers-i-end.ensures) in
    let e : entries_of c.part.result ≡ slice_range (entries_of c.args.v)
    (c.args.rank * start_at c.args.places.now c.loop-i.i + c.args.block * get_or c.args.places.now c.loop-i.i
    0)
    (c.args.rank * start_at c.args.places.now c.loop-i.i + c.args.block * get_or c.args.places.now c.loop-i.i
    0
    + get_or c.args.places.now c.loop-i.i 0)
    = rw (c.layer_place-at.ensures.value, c.size-size.ensures.value) at c.part.ensures.entries in (
      (λ f. let z : ⊥ = cc in absurd z),
      (λ h. c.if-not-is_zero.ensures.1 (subst IsZero (sym e)
          (zero-part c.args.places.now c.args.rank c.args.block c.loop-i.i (entries_of c.args.v) layer
          (omega (arith, c.layer_place-at.ensures.value, c.layer_place-at.ensures.within, c.requires.length))
          h))),
    )

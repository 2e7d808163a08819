use Rattle.std.proofs.Common.{◌*◌, ◌≤◌, ◌<◌, length, arith, sym}
use Rattle.radical_layers.specs.Placing.{place_of}
use Rattle.group_algebra.specs.Places.{start_at}
use Rattle.group_algebra.proofs.LayerPlaces.{start-next, place-before}
use Rattle.group_algebra.proofs.combinations.tail_of.Goals as goal

pub returns-then-first-rank-clause-begins : goal.returns-then-first-rank-clause-begins
returns-then-first-rank-clause-begins c = record {
  within = omega (arith, c.loop-layer-test.true, c.layers-layer-end.ensures);
  start_is = c.loop-layer.invariant.0;
  zero = λ i k l m. c.next_place-first.ensures.before (place_of c.args.places.now c.args.rank i k)
      (omega arith)
      (let p : place_of c.args.places.now c.args.rank i k
      < c.args.rank * start_at c.args.places.now c.loop-layer.layer =
      place-before c.args.places.now c.args.rank i c.loop-layer.layer k l
      (rw c.loop-layer.invariant.0 at m) in
      let q : c.args.rank * start_at c.args.places.now c.loop-layer.layer ≤ c.next_place-first.result =
      rw c.loop-layer.invariant.0 at c.loop-layer.invariant.1 in
      omega (arith, p, q));
}

pub loop-layer-preserved : goal.loop-layer-preserved
loop-layer-preserved c =
    let layer : c.loop-layer.layer < length c.args.places.now =
    omega (arith, c.loop-layer-test.true, c.layers-layer-end.ensures) in (
      rw (c.loop-layer.invariant.0, c.size.ensures.value)
          (sym (start-next c.args.places.now c.loop-layer.layer layer)),
      omega (arith, c.if-first-rank.false),
    )

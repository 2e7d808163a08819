use Rattle.std.proofs.Common.{◌≡◌, ℕ, List, ◌+◌, ◌*◌, ◌<◌, ◌≤◌, get_or, length, slice_range, arith, ap, sym}
use Rattle.std.proofs.Common.{◌∙◌, refl}
use Rattle.fp_rows.specs.Parts.{GainsPart}
use Rattle.fp_rows.specs.Refs.{entries_of}
use Rattle.fp_rows.specs.Values.{RowValue}
use Rattle.linear_algebra.specs.Rows.{entry}
use Rattle.radical_layers.specs.Placing.{size_of}
use Rattle.group_algebra.specs.Places.{start_at}
use Rattle.group_algebra.proofs.LayerPlaces.{layers-none, layers-next, layers-all, start-next, start_within}
use Rattle.group_algebra.proofs.LayerPlaces.{entry-part, length-part, part-within, zeros-gain}
use Rattle.group_algebra.proofs.combinations.add_to_block.Goals as goal
use Rattle.group_algebra.proofs.combinations.add_to_block.Goals.{then-first-start, else-first-start}

pub loop-i-init : goal.loop-i-init
loop-i-init c = record {
  prime = refl;
  start = refl;
  layers = layers-none c.args.out.now.p c.args.places.now c.args.rank c.args.block
      (λ k. c.args.c * entry (entries_of c.args.r) k) c.args.out.now.entries
      (rw c.requires.length at c.len-2.ensures.row);
}

pub loop-i-preserved : goal.loop-i-preserved
loop-i-preserved c =
    let layer : c.loop-i.i < length c.args.places.now =
    omega (arith, c.loop-i-test.true, c.layers-i-end.ensures) in
    let S : ℕ = start_at c.args.places.now c.loop-i.i in
    let size : ℕ = get_or c.args.places.now c.loop-i.i 0 in
    let part : List ℕ = slice_range (entries_of c.args.r) S (S + size) in
    let at : ℕ = c.args.rank * S + c.args.block * size in
    let fits : S + size ≤ size_of c.args.places.now = start_within c.args.places.now c.loop-i.i layer in
    let count : length part ≡ size =
    length-part (entries_of c.args.r) S size (omega (arith, fits, c.requires.row_length)) in
    let next : c.loop-i.start + c.size-size.result ≡ start_at c.args.places.now (c.loop-i.i + 1) =
    rw (c.loop-i.invariant.start, c.size-size.ensures.value)
    (sym (start-next c.args.places.now c.loop-i.i layer)) in
    elim c.if-first-start.branch [
      | then-first-start w ↦
          let G : GainsPart c.args.out.now.p at c.args.c part c.loop-i.out.entries
          w.add_part.new.self.entries =
          rw (
            w.part.ensures.entries,
            w.layer_place-at.ensures.value,
            c.loop-i.invariant.start,
            c.size-size.ensures.value,
            c.loop-i.invariant.prime,
          ) at
          w.add_part.ensures.gains in
          record {
            prime = ap (λ (v : RowValue). v.p) w.out-is ∙ w.add_part.ensures.prime ∙ c.loop-i.invariant.prime;
            start = next;
            layers = rw w.out-is (layers-next c.args.out.now.p c.args.places.now c.args.rank c.args.block
                c.args.c (entries_of c.args.r) c.args.out.now.entries c.loop-i.out.entries
                w.add_part.new.self.entries c.loop-i.i
                (let z = c.requires.factor in omega (arith, z)) c.requires.block layer
                c.loop-i.invariant.layers c.requires.row_length G);
          }
      | else-first-start w ↦
          let G : GainsPart c.args.out.now.p at c.args.c part c.loop-i.out.entries c.loop-i.out.entries =
          zeros-gain c.args.out.now.p at c.args.c part c.loop-i.out.entries
          (λ j l. c.loop-i.invariant.layers.is_row.below j
          (omega (arith, l, c.loop-i.invariant.layers.is_row.length_is)))
          (let z : at + size ≤ size_of c.args.places.now * c.args.rank =
          part-within (size_of c.args.places.now) c.args.rank c.args.block S size c.requires.block fits in
          omega (arith, z, count, c.loop-i.invariant.layers.is_row.length_is))
          (λ j l. entry-part (entries_of c.args.r) S size j (omega (arith, l, count))
          ∙ c.next_place-first.ensures.before (S + j) (omega arith)
          (omega (
            arith,
            l,
            count,
            w.if-first-start.false,
            c.size-size.ensures.value,
            c.loop-i.invariant.start,
          ))) in
          record {
            prime = rw w.out-is c.loop-i.invariant.prime;
            start = next;
            layers = rw w.out-is (layers-next c.args.out.now.p c.args.places.now c.args.rank c.args.block
                c.args.c (entries_of c.args.r) c.args.out.now.entries c.loop-i.out.entries
                c.loop-i.out.entries c.loop-i.i
                (let z = c.requires.factor in omega (arith, z)) c.requires.block layer
                c.loop-i.invariant.layers c.requires.row_length G);
          }
    ]

pub returns-clause-gains : goal.returns-clause-gains
returns-clause-gains c = layers-all c.args.out.now.p c.args.places.now c.args.rank c.args.block
    (λ k. c.args.c * entry (entries_of c.args.r) k) c.args.out.now.entries c.loop-i.out.entries c.loop-i.i
    c.requires.block (omega (arith, c.loop-i-test.false, c.layers-i-end.ensures)) c.loop-i.invariant.layers

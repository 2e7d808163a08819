use Rattle.std.proofs.Common.{◌<◌, arith, ap, sym, length, ◌∙◌}
use Rattle.std.proofs.Math.ListN.{length-set}
use Rattle.ring_completion.proofs.LeftPlaces.{left-out}
use Rattle.ring_degree.proofs.LeftEntries.{room, next-written}
use Rattle.ring_degree.proofs.left.write_without_pivots.Goals as goal
use Rattle.ring_degree.proofs.left.write_without_pivots.Goals.{then-not-is_pivot, else-not-is_pivot}

pub set-requires-clause-inside : goal.set-requires-clause-inside
set-requires-clause-inside c =
    let r = room c.args.e.now.rows c.args.v.now.entries c.loop-k.k c.loop-k.at
    (omega (arith, c.loop-k-test.true, c.len-k-end.ensures.count)) (sym c.if-not-is_pivot.ensures)
    c.loop-k.invariant.count in
    omega (arith, r, c.loop-k.invariant.same_length, c.requires.length)

pub overflow_add-at : goal.overflow_add-at
overflow_add-at c =
    let r = room c.args.e.now.rows c.args.v.now.entries c.loop-k.k c.loop-k.at
    (omega (arith, c.loop-k-test.true, c.len-k-end.ensures.count)) (sym c.if-not-is_pivot.ensures)
    c.loop-k.invariant.count in
    omega (arith, r, c.requires.length, c.len-room.ensures.count, c.len-room.type_inv)

pub loop-k-preserved : goal.loop-k-preserved
loop-k-preserved c =
    elim c.if-not-is_pivot.branch [
      | then-not-is_pivot w ↦
          let l : c.loop-k.k < length c.args.v.now.entries =
          omega (arith, c.loop-k-test.true, c.len-k-end.ensures.count) in
          let r = room c.args.e.now.rows c.args.v.now.entries c.loop-k.k c.loop-k.at l
          (sym w.if-not-is_pivot.ensures) c.loop-k.invariant.count in
          let n = next-written c.args.e.now.rows c.args.v.now.entries c.loop-k.out.entries c.loop-k.k
          c.loop-k.at w.get.result l (sym w.if-not-is_pivot.ensures) c.loop-k.invariant.count
          c.loop-k.invariant.written
          (omega (arith, r, c.loop-k.invariant.same_length, c.requires.length)) w.get.ensures.value in
          rw (w.out-is, w.at-is, w.set.ensures) record {
            prime = c.loop-k.invariant.prime;
            same_length = length-set c.loop-k.out.entries c.loop-k.at w.get.result
                ∙ c.loop-k.invariant.same_length;
            count = n.0;
            written = n.1;
          }
      | else-not-is_pivot w ↦
          let l : c.loop-k.k < length c.args.v.now.entries =
          omega (arith, c.loop-k-test.true, c.len-k-end.ensures.count) in
          let e = sym (left-out c.args.e.now.rows c.args.v.now.entries c.loop-k.k 0 l
          (sym w.if-not-is_pivot.ensures)) in
          rw (w.out-is, w.at-is) record {
            prime = c.loop-k.invariant.prime;
            same_length = c.loop-k.invariant.same_length;
            count = c.loop-k.invariant.count ∙ ap length e;
            written = c.loop-k.invariant.written ∙ e;
          }
    ]

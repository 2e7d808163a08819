use Rattle.std.proofs.Common.{◌≡◌, ◌<◌, arith}
use Rattle.group_table.specs.Tables.{order, product, IsInverse}
use Rattle.group_table.specs.Groups.{IsGroup}
use Rattle.group_algebra.proofs.coefficients.write_translate.Goals as goal

pub returns-clause-translate : goal.returns-clause-translate
returns-clause-translate c =
    let L : IsGroup (order c.args.group.now) (product c.args.group.now) = c.order-order.ensures.law in
    let d = L.inverse c.args.g c.requires.element in
    let I : IsInverse c.args.group.now c.args.g d.0 = record { below = d.1; right = d.2; left = d.3 } in
    let all : order c.args.group.now ≡ c.loop-k.k =
    omega (arith, c.loop-k-test.false, c.order-order.ensures.value, c.requires.length, c.loop-k.invariant.within) in
    record {
      inverse = d.0;
      is_inverse = I;
      is_row = rw (c.loop-k.invariant.prime, c.loop-k.invariant.count) at c.len.ensures.row;
      each = λ k l. c.loop-k.invariant.done d.0 k I l
          (let z : product c.args.group.now d.0 k < order c.args.group.now = L.closed d.0 k d.1 l in
          omega (arith, z, all));
    }

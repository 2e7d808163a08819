-- The exponent is less than that of the width.
use Rattle.std.proofs.Common.{◌-◌, arith}
use Rattle.pc_group.proofs.Powers.{pow-le, pow-less, pow-some}
use Rattle.pc_group.proofs.layer_lists.generator_number.Goals as goal

pub small_power-requires-clause-small : goal.small_power-requires-clause-small
small_power-requires-clause-small c =
    let s = c.requires.some in
    let m = c.requires.small in
    let t = c.if-i-j.true in
    let l = c.requires.inside in
    let k = pow-le c.args.prime (c.args.j - c.args.i - 1) (c.args.n - c.args.i) (omega (arith, s))
    (omega (arith, t, l)) in
    omega (arith, k, m)

pub returns-then-i-j-clause-below : goal.returns-then-i-j-clause-below
returns-then-i-j-clause-below c =
    let s = c.requires.some in
    let t = c.if-i-j.true in
    let l = c.requires.inside in
    let k = pow-less c.args.prime (c.args.j - c.args.i - 1) (c.args.n - c.args.i) s (omega (arith, t, l)) in
    let e = c.small_power.ensures.value in
    omega (arith, k, e)

pub returns-else-i-j-clause-below : goal.returns-else-i-j-clause-below
returns-else-i-j-clause-below c = let s = c.requires.some in
    pow-some c.args.prime (c.args.n - c.args.i) (omega (arith, s))

-- The next power is at most the last one.
use Rattle.std.proofs.Common.{◌≡◌, ◌*◌, ◌^◌, arith, ap, ◌∙◌}
use Rattle.pc_group.proofs.Powers.{pow-step, pow-some}
use Rattle.pc_group.proofs.layer_lists.small_power.Goals as goal

pub overflow_mul-y : goal.overflow_mul-y
overflow_mul-y c =
    let s = c.requires.some in
    let k = pow-step c.args.prime c.args.e c.loop-k.k (omega (arith, s)) c.loop-k-test.true in
    let m = c.requires.small in
    let e : c.loop-k.y * c.args.prime ≡ c.args.prime ^ c.loop-k.k * c.args.prime =
    ap (λ t. t * c.args.prime) c.loop-k.invariant in
    omega (arith, k, m, e)

pub returns-clause-some : goal.returns-clause-some
returns-clause-some c =
    let s = c.requires.some in
    let h = pow-some c.args.prime c.loop-k.k (omega (arith, s)) in
    let e = c.loop-k.invariant in
    omega (arith, h, e)

pub returns-clause-small : goal.returns-clause-small
returns-clause-small c =
    let f = c.loop-k-test.false in
    let a = c.loop-k.auto.k-end in
    let e : c.loop-k.y ≡ c.args.prime ^ c.args.e = c.loop-k.invariant
    ∙ ap (λ k. c.args.prime ^ k) (omega (arith, f, a)) in
    let m = c.requires.small in
    omega (arith, e, m)

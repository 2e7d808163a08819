use Rattle.std.proofs.Common.{◌≡◌, ◌+◌, ◌<◌, arith, subst, sym}
use Rattle.param_test.specs.Odometers.{IsSpread}
use Rattle.param_test.proofs.Spread.{spread-skip, spread-put, spread-places, spread-coefficients}
use Rattle.param_test.proofs.Spread.{spread-combination}
use Rattle.param_test.proofs.combos.spread.Goals as goal

pub returns-clause-member : goal.returns-clause-member
returns-clause-member c =
    let e : c.loop-i.i ≡ c.args.n = omega arith in
    spread-combination c.args.n c.args.a.now c.args.c.now c.args.p c.loop-i.next c.loop-i.row.items
    c.requires.prime c.requires.sparse
    (subst (λ z. IsSpread c.args.n c.args.a.now c.args.c.now z c.loop-i.next c.loop-i.row.items) e
    c.loop-i.invariant)

pub returns-clause-places : goal.returns-clause-places
returns-clause-places c =
    let e : c.loop-i.i ≡ c.args.n = omega arith in
    spread-places c.args.n c.args.a.now c.args.c.now c.loop-i.next c.loop-i.row.items
    (subst (λ z. IsSpread c.args.n c.args.a.now c.args.c.now z c.loop-i.next c.loop-i.row.items) e
    c.loop-i.invariant)

pub returns-clause-coefficients : goal.returns-clause-coefficients
returns-clause-coefficients c =
    let e : c.loop-i.i ≡ c.args.n = omega arith in
    spread-coefficients c.args.n c.args.a.now c.args.c.now c.loop-i.next c.loop-i.row.items
    c.requires.sparse.same_length
    (subst (λ z. IsSpread c.args.n c.args.a.now c.args.c.now z c.loop-i.next c.loop-i.row.items) e
    c.loop-i.invariant)

pub loop-i-preserved-then-x-eq0 : goal.loop-i-preserved-then-x-eq0
loop-i-preserved-then-x-eq0 c =
    subst (λ z. IsSpread c.args.n c.args.a.now c.args.c.now (c.loop-i.i + 1) c.loop-i.next z)
    (sym c.in_ok-push.ensures.items)
    (spread-skip c.args.n c.args.a.now c.args.c.now c.loop-i.i c.loop-i.next c.loop-i.row.items
    (c.entry_at-x.ensures.zero c.if-x-eq0.true) c.loop-i.invariant)

pub loop-i-preserved : goal.loop-i-preserved
loop-i-preserved c =
    let h : 0 < c.entry_at-x.result = omega arith in
    subst (λ z. IsSpread c.args.n c.args.a.now c.args.c.now (c.loop-i.i + 1) (c.loop-i.next + 1) z)
    (sym c.in_ok-push-2.ensures.items)
    (spread-put c.args.n c.args.a.now c.args.c.now c.loop-i.i c.loop-i.next c.entry_at-x.result
    c.loop-i.row.items c.requires.sparse.same_length (c.entry_at-x.ensures.within h)
    (c.entry_at-x.ensures.here h) h (c.entry_at-x.ensures.value h) c.loop-i.invariant)

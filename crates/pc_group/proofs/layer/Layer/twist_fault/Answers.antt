-- The tests before j pass, and test j is decided by the numbers of its sides.
use Rattle.std.proofs.Common.{ℕ, suc, ◌+◌, ◌<◌, arith}
use Rattle.power_commutator.specs.Presentations.{Presentation as Presented, Equation, product, twist_test}
use Rattle.pc_group.proofs.Faults.{loop-none, loop-some, loop-next, passing, failing, twist-tells}
use Rattle.pc_group.proofs.layer.Layer.twist_fault.Goals as goal

abbrev test : (P : Presented) → (i m j : ℕ) → Equation
test P i m j = twist_test P (product P (suc i) m) i m j

pub returns : goal.returns
returns c P m R =
    let i = c.args.self.now.index in
    loop-none (test P i m) (suc i) m (c.args.self.now.gens + 1)
    (let z = R.count in let e = R.gens-is in omega (arith, z, e))
    (λ k h l. c.loop-j.invariant P m R k h (let t = c.loop-j-test.false in omega (arith, t, l)))

pub returns-then-left-right : goal.returns-then-left-right
returns-then-left-right c P m R =
    let L = c.args.self.now in
    let i = L.index in
    let j = c.loop-j.j in
    let above : i < j = let b = c.loop-j.auto.j in omega (arith, b) in
    loop-some (test P i m) (suc i) m (L.gens + 1)
    (let z = R.count in let e = R.gens-is in omega (arith, z, e))
    j above c.loop-j-test.true (c.loop-j.invariant P m R)
    (failing (test P i m j) _ _ (twist-tells P m L R j above c.loop-j-test.true c.power_word-w.ensures.value
    c.generator-g.ensures.value c.iterated.ensures.value c.entry-left.ensures.value
    c.entry-right.ensures.value)
    c.if-left-right.true)

pub loop-j-preserved : goal.loop-j-preserved
loop-j-preserved c P m R =
    let L = c.args.self.now in
    let i = L.index in
    let j = c.loop-j.j in
    let above : i < j = let b = c.loop-j.auto.j in omega (arith, b) in
    loop-next (test P i m) (suc i) j (c.loop-j.invariant P m R)
    (passing (test P i m j) _ _ (twist-tells P m L R j above c.loop-j-test.true c.power_word-w.ensures.value
    c.generator-g.ensures.value c.iterated.ensures.value c.entry-left.ensures.value
    c.entry-right.ensures.value)
    c.if-left-right.false)

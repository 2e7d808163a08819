-- The tests before k pass, and test k is decided by the numbers of its sides.
use Rattle.std.proofs.Common.{ℕ, suc, ◌+◌, ◌-◌, ◌<◌, arith}
use Rattle.power_commutator.specs.Presentations.{Presentation as Presented, Equation, product, swap_test}
use Rattle.pc_group.proofs.Faults.{loop-none, loop-some, loop-next, passing, failing, swap-tells}
use Rattle.pc_group.proofs.layer.Layer.swap_row.Goals as goal

abbrev test : (P : Presented) → (i m j k : ℕ) → Equation
test P i m j k = swap_test P (product P (suc i) m) i m j k

pub returns : goal.returns
returns c P m R =
    let n = c.args.self.now.gens in
    loop-none (test P c.args.self.now.index m c.args.j) (suc c.args.j) (n + 1 - suc c.args.j) (n + 1)
    (let b = c.requires.inside in omega (arith, b))
    (λ k h l. c.loop-k.invariant P m R k h (let t = c.loop-k-test.false in omega (arith, t, l)))

pub returns-then-left-right : goal.returns-then-left-right
returns-then-left-right c P m R =
    let L = c.args.self.now in
    let j = c.args.j in
    let k = c.loop-k.k in
    let above : j < k = let b = c.loop-k.auto.k in omega (arith, b) in
    loop-some (test P L.index m j) (suc j) (L.gens + 1 - suc j) (L.gens + 1)
    (let b = c.requires.inside in omega (arith, b))
    k above c.loop-k-test.true (c.loop-k.invariant P m R)
    (failing (test P L.index m j k) _ _ (swap-tells P m L R j k c.requires.above above c.loop-k-test.true
    c.generator.ensures.value c.image-a.ensures.value c.generator-in-loop-k.ensures.value
    c.image-b.ensures.value c.commutator_word.ensures.value c.image-c.ensures.value
    c.entry-left.ensures.value c.entry.ensures.value c.entry-right.ensures.value)
    c.if-left-right.true)

pub loop-k-preserved : goal.loop-k-preserved
loop-k-preserved c P m R =
    let L = c.args.self.now in
    let j = c.args.j in
    let k = c.loop-k.k in
    let above : j < k = let b = c.loop-k.auto.k in omega (arith, b) in
    loop-next (test P L.index m j) (suc j) k (c.loop-k.invariant P m R)
    (passing (test P L.index m j k) _ _ (swap-tells P m L R j k c.requires.above above c.loop-k-test.true
    c.generator.ensures.value c.image-a.ensures.value c.generator-in-loop-k.ensures.value
    c.image-b.ensures.value c.commutator_word.ensures.value c.image-c.ensures.value
    c.entry-left.ensures.value c.entry.ensures.value c.entry-right.ensures.value)
    c.if-left-right.false)

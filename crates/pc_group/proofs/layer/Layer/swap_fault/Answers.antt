-- A row without a fault is passed over; the fault of the first other one is the answer.
use Rattle.std.proofs.Common.{◌≡◌, suc, sym, ◌∙◌, ◌+◌, ◌<◌, ◌≤◌, arith, subst, ◌⊎◌, inl, inr, None}
use Rattle.power_commutator.specs.Presentations.{product, swap_test, first_false}
use Rattle.power_commutator.specs.Order.{row}
use Rattle.power_commutator.proofs.Cyclic.{less-or}
use Rattle.power_commutator.proofs.Order.{none-pairs, some-pairs}
use Rattle.pc_group.proofs.layer.Layer.swap_fault.Goals as goal

pub returns : goal.returns
returns c P m R =
    let i = c.args.self.now.index in
    let n = c.args.self.now.gens in
    let e = R.gens-is in
    let z = R.count in
    sym
    (none-pairs (swap_test P (product P (suc i) m) i m) (suc i) m (n + 1) (omega (arith, z, e))
    (λ a b. c.loop-j.invariant P m R a b.0
    (let t = c.loop-j-test.false in let u = b.1 in omega (arith, t, z, e, u))))

pub returns-in-Some : goal.returns-in-Some
returns-in-Some c P m R =
    let i = c.args.self.now.index in
    let n = c.args.self.now.gens in
    let e = R.gens-is in
    let z = R.count in
    sym
    (some-pairs (swap_test P (product P (suc i) m) i m) (suc i) m (n + 1) c.loop-j.j c.in-Some.name
    (omega (arith, z, e))
    (let b = c.loop-j.auto.j in omega (arith, b), let t = c.loop-j-test.true in omega (arith, t, z, e))
    (c.loop-j.invariant P m R) (sym (c.in-Some.ensures P m R)))

pub loop-j-preserved : goal.loop-j-preserved
loop-j-preserved c P m R k h l = go (less-or k c.loop-j.j)
  where
    go : (k < c.loop-j.j) ⊎ (c.loop-j.j ≤ k)
        → first_false (row (swap_test P (product P (suc c.args.self.now.index) m) c.args.self.now.index m)
        (c.args.self.now.gens + 1) k) ≡ None
    go (inl t) = c.loop-j.invariant P m R k h t
    go (inr t) =
        subst
        (λ a. first_false (row (swap_test P (product P (suc c.args.self.now.index) m) c.args.self.now.index m)
        (c.args.self.now.gens + 1) a) ≡ None)
        (let z : c.loop-j.j ≡ k = omega (arith, t, l) in z) (sym (c.swap_row.ensures P m R) ∙ c.in_default.is)

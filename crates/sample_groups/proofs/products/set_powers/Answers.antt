use Rattle.std.proofs.Common.{◌≡◌, ◌+◌, ◌-◌, subst, sym, arith}
use Rattle.sample_groups.specs.Products.{Agrees, direct_product}
use Rattle.sample_groups.proofs.Agreement.{power_agrees, power_fits}
use Rattle.sample_groups.proofs.products.set_powers.Goals as goal

pub set_power-requires-clause-word : goal.set_power-requires-clause-word
set_power-requires-clause-word c =
    power_fits (direct_product c.args.p.now c.args.q.now) c.requires.valid c.loop-i.made c.loop-i.i
    c.in_ok-power_in_product.field-0.items c.loop-i.invariant (omega arith)
    (omega (arith, c.gens-n.ensures.value, c.requires.begun.gens)) c.in_ok-power_in_product.ensures

pub loop-i-preserved : goal.loop-i-preserved
loop-i-preserved c =
    let D = direct_product c.args.p.now c.args.q.now in
    let e : c.loop-i.i + 1 - 1 ≡ c.loop-i.i = omega arith in
    subst (λ i. Agrees D i 0 c.set_power.new.self) (sym e)
    (subst (Agrees D c.loop-i.i 0) (sym c.set_power.ensures)
    (power_agrees D c.requires.valid c.loop-i.made c.loop-i.i
    c.in_ok-power_in_product.field-0.items c.loop-i.invariant (omega arith)
    (omega (arith, c.gens-n.ensures.value, c.requires.begun.gens)) c.in_ok-power_in_product.ensures))

use Rattle.std.proofs.Common.{◌≡◌, ◌+◌, ◌-◌, ◌++◌, ◌∷◌, [], suc, ◌∙◌, ap, sym, arith, append_assoc}
use Rattle.power_commutator.specs.Collect.{copies}
use Rattle.pc_group.proofs.collection.push_power.Goals as goal

pub loop-k-preserved : goal.loop-k-preserved
loop-k-preserved c =
    let rest = c.args.e - (c.loop-k._k + 1) in
    let e : c.args.e - c.loop-k._k ≡ suc rest = omega arith in
    ap (λ t. t ++ copies rest c.args.i) c.in_ok-push.ensures.items
    ∙ append_assoc c.loop-k.factors.items (c.args.i ∷ []) (copies rest c.args.i)
    ∙ ap (λ t. c.loop-k.factors.items ++ copies t c.args.i) (sym e)
    ∙ c.loop-k.invariant

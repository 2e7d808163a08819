use Rattle.std.proofs.Common.{◌≡◌, ◌<◌, ◌∙◌, sym, arith}
use Rattle.group_table.specs.Tables.{order, product}
use Rattle.group_table.proofs.Laws.{inverse-left}
use Rattle.group_table.proofs.group.Group.inv.Goals as goal

pub returns-then-mul-eq0 : goal.returns-then-mul-eq0
returns-then-mul-eq0 c =
    let e : product c.args.self.now c.args.a c.loop-b.b ≡ 0 = sym c.mul.ensures.value ∙ c.if-mul-eq0.true in
    let below : c.loop-b.b < order c.args.self.now = omega (arith, c.order-b-end.ensures.value) in
    record {
      below = below;
      right = e;
      left = inverse-left c.order-b-end.ensures.law c.args.a c.loop-b.b c.requires below e;
    }

pub unreachable-requires : goal.unreachable-requires
unreachable-requires c =
    let b = c.order-b-end.ensures.law.inverse c.args.a c.requires in
    c.loop-b.invariant b.0 (omega (arith, b.1, c.order-b-end.ensures.value)) b.2

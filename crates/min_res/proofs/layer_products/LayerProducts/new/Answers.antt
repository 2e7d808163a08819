use Rattle.std.proofs.Common.{◌≡◌, arith, ap, ◌∙◌}
use Rattle.p_groups.specs.PGroups.{order_of}
use Rattle.min_res.proofs.layer_products.LayerProducts.new.Goals as goal

pub invariant_of-result : goal.invariant_of-result
invariant_of-result c =
    let order : c.order.result ≡ order_of c.args.algebra.now =
    c.order.ensures.value ∙ ap order_of c.group.ensures in
    record {
      members_are = c.first_layer-members.ensures;
      small = omega (arith, order, c.order.ensures.small);
    }

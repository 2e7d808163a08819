use Rattle.std.proofs.Common.{length, ◌∙◌, ap, sym, arith}
use Rattle.radical_layers.specs.Placing.{size_of}
use Rattle.group_algebra.proofs.LayerRows.{size-is, basis-count}
use Rattle.group_algebra.proofs.algebra.Algebra.build.Goals as goal

pub unit_preimages-requires-clause-basis : goal.unit_preimages-requires-clause-basis
unit_preimages-requires-clause-basis c = record {
  prime = c.in_ok-basis.ensures.prime;
  width = c.in_ok-basis.ensures.width;
  rows = ap length c.in_ok-basis.ensures.rows ∙ basis-count c.new-group.result;
}

pub member_rows-requires-clause-basis : goal.member_rows-requires-clause-basis
member_rows-requires-clause-basis c = record {
  prime = c.in_ok-basis.ensures.prime;
  width = c.in_ok-basis.ensures.width;
  rows = ap length c.in_ok-basis.ensures.rows ∙ basis-count c.new-group.result;
}

pub new-requires-clause-sum : goal.new-requires-clause-sum
new-requires-clause-sum c = c.order.ensures.value
    ∙ sym (ap size_of c.in_ok-basis.ensures.sizes ∙ size-is c.new-group.result)

pub invariant_of-result : goal.invariant_of-result
invariant_of-result c = record {
  small = omega (arith, c.order.ensures.value, c.order.ensures.small);
  sizes_are = c.in_ok-places.ensures ∙ c.in_ok-basis.ensures.sizes;
  member_shape = c.in_ok-members.ensures.shape;
  members_are = c.in_ok-members.ensures.members;
  element_shape = c.in_ok-elements.ensures.shape;
  elements_are = c.in_ok-elements.ensures.rows;
  translate_shape = c.in_ok-translates.ensures.shape;
  translates_are = c.in_ok-translates.ensures.rows;
  product_shape = c.in_ok-products.ensures.shape;
  products_are = c.in_ok-products.ensures.rows;
}

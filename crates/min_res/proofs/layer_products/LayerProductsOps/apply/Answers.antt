use Rattle.std.proofs.Common.{◌+◌, arith}
use Rattle.fp_rows.specs.Refs.{entries_of}
use Rattle.group_algebra.specs.Coordinates.{member, product_with, table_of}
use Rattle.min_res.proofs.ProductMaps.{member-inside, product-is, product-row}
use Rattle.min_res.proofs.layer_products.LayerProductsOps.apply.Goals as goal

pub overflow_add-member : goal.overflow_add-member
overflow_add-member c = omega (
  arith,
  c.args.self.now.small,
  member-inside c.args.self.now.algebra.now c.args.self.now.members_are c.args.i c.requires.map,
)

pub multiply_by_member-requires-clause-member : goal.multiply_by_member-requires-clause-member
multiply_by_member-requires-clause-member c = member-inside c.args.self.now.algebra.now
    c.args.self.now.members_are c.args.i c.requires.map

pub returns-clause-row : goal.returns-clause-row
returns-clause-row c = product-row c.args.self.now.algebra.now c.args.self.now.rank
    (product_with c.args.self.now.algebra.now c.args.self.now.rank
    (member c.args.self.now.algebra.now (c.args.self.now.members.before + c.args.i))
    (table_of c.args.self.now.algebra.now c.args.self.now.rank (entries_of c.args.v)))
    c.multiply_by_member.new.out.entries c.multiply_by_member.ensures.product

pub returns-clause-image : goal.returns-clause-image
returns-clause-image c = product-is c.args.self.now.algebra.now c.args.self.now.members_are
    c.args.self.now.rank c.args.i c.requires.map (entries_of c.args.v) c.multiply_by_member.new.out.entries
    c.requires.row c.multiply_by_member.ensures.product

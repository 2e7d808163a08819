use Rattle.std.proofs.Common.{◌≡◌, length}
use Rattle.group_table.specs.Tables.{order}
use Rattle.group_algebra.specs.Products.{AreProducts}
use Rattle.group_algebra.proofs.generation.add_all.Given as goal

abbrev pub invariant-loop-i : goal.invariant-loop-i
invariant-loop-i l = record {
  marks : length l.seen.items ≡ order l.group;
  products : AreProducts l.group l.generators l.products.items l.seen.items;
}

use Rattle.std.proofs.Common.{◌≡◌, ◌<◌, ℕ, length}
use Rattle.std.specs.Prelude.{All}
use Rattle.group_table.specs.Tables.{order, product}
use Rattle.group_algebra.specs.Products.{AreProducts, IsProductOf}
use Rattle.group_algebra.proofs.generation.generators.Given as goal

abbrev pub invariant-loop-g : goal.invariant-loop-g
invariant-loop-g l = record {
  marks : length l.seen.items ≡ order l.group;
  below : All (λ x. x < order l.group) l.found.items;
  products : AreProducts l.group l.found.items l.products.items l.seen.items;
  so_far : (k : ℕ) → k < l.g → IsProductOf (product l.group) l.found.items k;
}

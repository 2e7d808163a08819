use Rattle.std.proofs.Common.{take}
use Rattle.gc_poly.specs.Generators.{greatest}
use Rattle.gc_poly.specs.Lists.{IsDescending}
use Rattle.ring_degree.specs.Products.{Gains, IsProductWith}
use Rattle.ring_degree.proofs.reached.insert_products.Given as goal

-- the products with the first monomials
abbrev pub invariant-loop-k : goal.invariant-loop-k
invariant-loop-k l = record {
  descending : IsDescending l.list.items;
  members : Gains (IsProductWith (greatest l.gens) l.gens.degrees l.i (take l.k l.monomials))
      l.initial.list.items l.list.items;
}

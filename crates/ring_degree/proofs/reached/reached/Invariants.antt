use Rattle.std.proofs.Common.{ℕ, ◌<◌, ◌-◌, ◌↔◌, List, length}
use Rattle.gc_poly.specs.Generators.{greatest}
use Rattle.gc_poly.specs.Lists.{IsDescending}
use Rattle.ring_completion.specs.Candidates.{IsListed}
use Rattle.ring_degree.specs.Products.{IsProductWith}
use Rattle.ring_degree.specs.Tables.{at_generator, standard_at}
use Rattle.ring_degree.proofs.reached.reached.Given as goal

-- the products with the first generators
abbrev pub invariant-loop-i : goal.invariant-loop-i
invariant-loop-i l = record {
  descending : IsDescending l.list.items;
  members : (m : List ℕ) → IsListed l.list.items m ↔ ((i : ℕ) × (i < l.i)
      × IsProductWith (greatest l.gens) l.gens.degrees i
      (standard_at l.tables (length l.tables - at_generator l.gens.degrees i)) m);
}

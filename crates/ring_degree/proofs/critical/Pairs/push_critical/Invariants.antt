use Rattle.std.proofs.Common.{◌≡◌}
use Rattle.gc_poly.specs.Generators.{greatest}
use Rattle.ring_degree.specs.Critical.{IsRowOf}
use Rattle.ring_degree.specs.Products.{Gains}
use Rattle.ring_degree.proofs.CriticalLists.{IsUpTo}
use Rattle.ring_degree.proofs.critical.Pairs.push_critical.Given as goal

-- the rows with the first generators
abbrev pub invariant-loop-j : goal.invariant-loop-j
invariant-loop-j l = record {
  prime : l.rows.p ≡ l.fn.rows.p;
  width : l.rows.width ≡ l.fn.rows.width;
  rows_are : Gains (IsUpTo (IsRowOf (greatest l.self.gens.now) l.self.gens.now.degrees l.self.tables.now
      l.self.width l.self.forms.now l.i) l.j) l.fn.rows.rows l.rows.rows;
}

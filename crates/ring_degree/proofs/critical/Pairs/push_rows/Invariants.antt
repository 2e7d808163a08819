use Rattle.std.proofs.Common.{◌≡◌}
use Rattle.gc_poly.specs.Generators.{greatest}
use Rattle.ring_degree.specs.Critical.{pair_row}
use Rattle.ring_degree.specs.Products.{Gains}
use Rattle.ring_degree.proofs.Places.{IsAmong, IsClearAt}
use Rattle.ring_degree.proofs.critical.Pairs.push_rows.Given as goal

-- the rows at the first monomials
abbrev pub invariant-loop-k : goal.invariant-loop-k
invariant-loop-k l = record {
  prime : l.rows.p ≡ l.initial.rows.p;
  width : l.rows.width ≡ l.initial.rows.width;
  rows_are : Gains (IsAmong (IsClearAt l.self.tables.now l.e l.i)
      (pair_row (greatest l.self.gens.now) l.self.gens.now.degrees l.self.tables.now l.self.width
      l.self.forms.now l.e l.i l.j) l.k) l.initial.rows.rows l.rows.rows;
}

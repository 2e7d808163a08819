use Rattle.std.proofs.Common.{◌≡◌, ℕ, ◌<◌, ◌↔◌, List}
use Rattle.gc_poly.specs.Generators.{greatest}
use Rattle.ring_completion.specs.Candidates.{IsListed}
use Rattle.ring_degree.specs.Critical.{IsCriticalWith}
use Rattle.ring_degree.proofs.critical.Pairs.critical.Given as goal

-- the critical rows of the first generators
abbrev pub invariant-loop-i : goal.invariant-loop-i
invariant-loop-i l = record {
  prime : l.rows.p ≡ l.self.gens.now.prime;
  width : l.rows.width ≡ l.self.width;
  rows_are : (v : List ℕ) → IsListed l.rows.rows v ↔ ((i : ℕ) × (i < l.i)
      × IsCriticalWith (greatest l.self.gens.now) l.self.gens.now.degrees l.self.tables.now l.self.width
      l.self.forms.now i v);
}

use Rattle.std.proofs.Common.{◌≡◌, suc, ◌++◌, map, take, length}
use Rattle.linear_algebra.specs.Rows.{row}
use Rattle.linear_algebra.specs.Choices.{rows_at}
use Rattle.cohomology_degree.specs.KnownTables.{generators_from}
use Rattle.cohomology_degree.specs.Degrees.{AreLeftOf, degrees_of, new_lift}
use Rattle.cohomology_degree.proofs.values.Lower.new_generators.Given as goal

abbrev pub invariant-loop-i : goal.invariant-loop-i
invariant-loop-i l = record {
  lifts : l.lifts.items ≡ map (λ k. new_lift l.res.group (suc (length l.self.degrees.now))
      (row l.basis.rows k)) (take l.i l.places);
  gens : l.gens ≡ record {
    prime = l.res.group.table.p;
    degrees = degrees_of (l.self.lifts.now ++ l.lifts.items);
  };
  left : AreLeftOf l.res.group l.self.relations.now (suc (length l.self.degrees.now))
      (l.self.lifts.now ++ l.lifts.items) l.left;
  monomials : l.left.monomials ≡ l.initial.left.monomials ++ generators_from (length l.self.lifts.now) l.i;
  rows : l.left.values.rows ≡ l.initial.left.values.rows ++ rows_at l.basis.rows (take l.i l.places);
}

use Rattle.std.proofs.Common.{◌≡◌, ℕ, ◌<◌, [], length}
use Rattle.std.specs.Prelude.{slice_index_or}
use Rattle.linear_algebra.specs.Rows.{row}
use Rattle.p_groups.specs.PGroups.{largest_residue}
use Rattle.graded_algebra.specs.Algebras.{evaluate}
use Rattle.presentation_rows.specs.Values.{vector}
use Rattle.cohomology_degree.specs.Rings.{cohomology}
use Rattle.cohomology_degree.specs.Degrees.{classes}
use Rattle.cohomology_degree.proofs.values.Lower.values.Given as goal

abbrev pub invariant-loop-i : goal.invariant-loop-i
invariant-loop-i l = record {
  prime : l.values.p ≡ l.self.group.now.table.p;
  width : l.values.width ≡ l.rank;
  count : length l.values.rows ≡ l.i;
  value_prime : l.value.p ≡ l.self.group.now.table.p;
  value_length : length l.value.entries ≡ l.rank;
  each : (k : ℕ) → k < l.i → vector (largest_residue l.self.group.now) (row l.values.rows k)
      ≡ evaluate (cohomology l.self.group.now) (classes l.self.group.now l.self.lifts.now)
      (slice_index_or l.monomials k []);
}

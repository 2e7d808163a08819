use Rattle.std.proofs.Common.{◌≡◌, ◌<◌, ℕ, [], length}
use Rattle.std.specs.Prelude.{slice_index_or}
use Rattle.linear_algebra.specs.Rows.{row}
use Rattle.p_groups.specs.PGroups.{largest_residue, prime_of}
use Rattle.graded_algebra.specs.Algebras.{evaluate}
use Rattle.min_res.specs.Stages.{rank_of}
use Rattle.presentation_rows.specs.Values.{vector}
use Rattle.ring_present.specs.Rings.{cohomology}
use Rattle.ring_present.specs.Values.{generators_of, standard_of}
use Rattle.coho_report.proofs.candidates.standard_classes.Given as goal

abbrev pub invariant-loop-i : goal.invariant-loop-i
invariant-loop-i l = record {
  prime : l.classes.p ≡ prime_of l.res.group;
  width : l.classes.width ≡ rank_of l.res.group l.d;
  count : length l.classes.rows ≡ l.i;
  each : (k : ℕ) → k < l.i → vector (largest_residue l.res.group) (row l.classes.rows k)
      ≡ evaluate (cohomology l.res.group) (generators_of (largest_residue l.res.group) l.ring.generators)
      (slice_index_or (standard_of l.ring l.d) k []);
}

use Rattle.std.proofs.Common.{◌≡◌, ℕ, ◌<◌, length}
use Rattle.std.specs.Prelude.{slice_index_or}
use Rattle.fp_rows.specs.Values.{MatrixValue}
use Rattle.ring_degree.specs.Finishing.{IsProductForm}
use Rattle.ring_degree.proofs.finishing.finish.Given as goal

-- the products with the first generators
abbrev pub invariant-loop-i : goal.invariant-loop-i
invariant-loop-i l = record {
  count : length l.wide.items ≡ l.i;
  each : (j : ℕ) (m : MatrixValue) → j < l.i
      → IsProductForm l.gens l.tables l.forms l.left l.width j (slice_index_or l.wide.items j m);
}

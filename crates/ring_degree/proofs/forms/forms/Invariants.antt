use Rattle.std.proofs.Common.{◌≡◌, ℕ, ◌<◌, length, get_or}
use Rattle.fp_rows.specs.Values.{MatrixValue}
use Rattle.ring_degree.proofs.FormMatrices.{IsFormMatrix}
use Rattle.ring_degree.proofs.forms.forms.Given as goal

-- the matrices of the first generators
abbrev pub invariant-loop-i : goal.invariant-loop-i
invariant-loop-i l = record {
  count : length l.forms.items ≡ l.i;
  each : (j : ℕ) (m : MatrixValue) → j < l.i → IsFormMatrix l.gens l.tables l.list j
      (get_or l.forms.items j m);
}

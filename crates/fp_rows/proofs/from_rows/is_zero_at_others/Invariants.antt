use Rattle.std.proofs.Common.{◌≡◌, ◌≢◌, ℕ, ◌<◌}
use Rattle.std.specs.Prelude.{slice_index}
use Rattle.linear_algebra.specs.Rows.{entry}
use Rattle.fp_rows.proofs.from_rows.is_zero_at_others.Given as goal

-- the row is 0 at the places before
abbrev pub invariant-loop-i : goal.invariant-loop-i
invariant-loop-i l = (j : ℕ) → j < l.i → j ≢ l.k → entry l.r.entries (slice_index l.places j) ≡ 0

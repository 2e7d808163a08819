use Rattle.std.proofs.Common.{◌<◌, ℕ}
use Rattle.min_res.specs.Held.{Holds, IsValueRowOf}
use Rattle.min_res.proofs.candidate.Candidate.first_row.Given as goal

abbrev pub invariant-loop-k : goal.invariant-loop-k
invariant-loop-k l = record {
  value : IsValueRowOf l.self l.value;
  before : (i : ℕ) → i < l.k → Holds l.self l.check i;
}

use Rattle.std.proofs.Common.{ℕ, ◌<◌, []}
use Rattle.std.specs.Prelude.{slice_index_or}
use Rattle.graded_polynomials.specs.Monomials.{IsGreater}
use Rattle.ring_degree.proofs.reached.find.Given as goal

-- the monomials so far are greater
abbrev pub invariant-loop-i : goal.invariant-loop-i
invariant-loop-i l = (k : ℕ) → k < l.i → IsGreater (slice_index_or l.list k []) l.m

use Rattle.std.proofs.Common.{◌≡◌, ℕ, ◌≤◌, length, slice_index_or}
use Rattle.gc_poly.proofs.mono.trimmed_len.Given as goal

-- past the length that is left all exponents are 0
abbrev pub invariant-loop-len : goal.invariant-loop-len
invariant-loop-len l = record {
  within : l.len ≤ length l.exponents;
  zeros : (i : ℕ) → l.len ≤ i → slice_index_or l.exponents i 0 ≡ 0;
}

abbrev pub decreases-loop-len : goal.decreases-loop-len
decreases-loop-len l = l.len

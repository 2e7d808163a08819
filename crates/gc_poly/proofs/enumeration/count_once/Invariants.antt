use Rattle.std.proofs.Common.{◌≡◌, ℕ, ◌+◌, ◌-◌, ◌^◌, ◌<◌, ◌≤◌, min, length, get_or}
use Rattle.gc_poly.proofs.enumeration.count_once.Given as goal

abbrev pub invariant-loop-j : goal.invariant-loop-j
invariant-loop-j l = record {
  done : (j : ℕ) → l.degree ≤ j → l.j ≤ j → j < length l.counts
      → get_or l.counts j 0 ≡ min (get_or l.initial.counts j 0 + get_or l.initial.counts (j - l.degree) 0)
      (2 ^ 64 - 1);
  before : (j : ℕ) → j < l.j → get_or l.counts j 0 ≡ get_or l.initial.counts j 0;
  same : (j : ℕ) → j < l.degree → get_or l.counts j 0 ≡ get_or l.initial.counts j 0;
}

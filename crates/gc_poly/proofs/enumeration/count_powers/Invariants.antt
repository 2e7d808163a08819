use Rattle.std.proofs.Common.{◌≡◌, ℕ, ◌+◌, ◌-◌, ◌^◌, ◌<◌, ◌≤◌, min, get_or}
use Rattle.gc_poly.proofs.enumeration.count_powers.Given as goal

abbrev pub invariant-loop-j : goal.invariant-loop-j
invariant-loop-j l = record {
  same : (j : ℕ) → j < l.degree → get_or l.counts j 0 ≡ get_or l.initial.counts j 0;
  done : (j : ℕ) → l.degree ≤ j → j < l.j
      → get_or l.counts j 0 ≡ min (get_or l.initial.counts j 0 + get_or l.counts (j - l.degree) 0)
      (2 ^ 64 - 1);
  later : (j : ℕ) → l.j ≤ j → get_or l.counts j 0 ≡ get_or l.initial.counts j 0;
}

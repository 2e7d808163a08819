use Rattle.std.proofs.Common.{◌≡◌, length, take}
use Rattle.ring_completion.specs.Left.{without_pivots}
use Rattle.ring_degree.proofs.left.write_without_pivots.Given as goal

-- what is left of the first places
abbrev pub invariant-loop-k : goal.invariant-loop-k
invariant-loop-k l = record {
  prime : l.out.p ≡ l.initial.out.p;
  same_length : length l.out.entries ≡ length l.initial.out.entries;
  count : l.at ≡ length (without_pivots l.e.rows 0 (take l.k l.v.entries));
  written : take l.at l.out.entries ≡ without_pivots l.e.rows 0 (take l.k l.v.entries);
}

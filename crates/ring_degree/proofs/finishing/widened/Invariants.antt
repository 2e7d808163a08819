use Rattle.std.proofs.Common.{◌≡◌, ◌-◌, ◌++◌, length, map, replicate, take}
use Rattle.ring_degree.proofs.finishing.widened.Given as goal

-- the first rows
abbrev pub invariant-loop-k : goal.invariant-loop-k
invariant-loop-k l = record {
  prime : l.wide.p ≡ l.rows.p;
  width_is : l.wide.width ≡ l.width;
  rows : l.wide.rows ≡ map (λ v. v ++ replicate (l.width - l.rows.width) 0) (take l.k l.rows.rows);
  out_prime : l.out.p ≡ l.rows.p;
  out_length : length l.out.entries ≡ l.width;
}

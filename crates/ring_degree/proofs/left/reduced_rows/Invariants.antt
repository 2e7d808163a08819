use Rattle.std.proofs.Common.{◌≡◌, length, take}
use Rattle.ring_degree.specs.Rests.{AreRests}
use Rattle.ring_degree.proofs.left.reduced_rows.Given as goal

-- the first rows
abbrev pub invariant-loop-k : goal.invariant-loop-k
invariant-loop-k l = record {
  prime : l.reduced.p ≡ l.rows.p;
  width : l.reduced.width ≡ l.left;
  out_prime : l.out.p ≡ l.rows.p;
  out_length : length l.out.entries ≡ l.left;
  rests : AreRests l.e.p l.e.rows (take l.k l.rows.rows) l.reduced.rows;
}

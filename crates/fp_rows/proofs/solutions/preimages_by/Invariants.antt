use Rattle.std.proofs.Common.{◌≡◌, length, take}
use Rattle.linear_algebra.specs.Choices.{ArePreimages}
use Rattle.fp_rows.proofs.solutions.preimages_by.Given as goal

abbrev pub invariant-loop-i : goal.invariant-loop-i
invariant-loop-i l = record {
  prime : l.rows.p ≡ l.m.p;
  width : l.rows.width ≡ length l.m.rows;
  done : ArePreimages l.m.p l.m.rows l.s.kernel.rows (take l.i l.targets.rows) l.rows.rows;
}

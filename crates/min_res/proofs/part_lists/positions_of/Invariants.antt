use Rattle.std.proofs.Common.{◌≡◌, take}
use Rattle.min_res.proofs.part_lists.positions_of.Given as goal

abbrev pub invariant-loop-i : goal.invariant-loop-i
invariant-loop-i g l = l.positions ≡ take l.i (g.S.StageParts.parts l.given).positions

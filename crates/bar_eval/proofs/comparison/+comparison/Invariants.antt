use Rattle.std.proofs.Common.{◌≡◌, ◌*◌, ◌+◌, ℕ, suc, length}
use Rattle.p_groups.specs.PGroups.{prime_of}
use Rattle.group_algebra.specs.Coordinates.{row_of}
use Rattle.min_res.specs.Stages.{rank_of}
use Rattle.bar_eval.specs.Comparison.{tuple_of}
use Rattle.bar_eval.proofs.FaceSums.{up-to}
use Rattle.bar_eval.proofs.comparison.+comparison.Given as goal

abbrev pub decreases-compared : goal.decreases-compared
decreases-compared l = 2 * length l.tuple.now + 1

abbrev pub decreases-compared_boundary : goal.decreases-compared_boundary
decreases-compared_boundary l = 2 * length l.tuple.now

abbrev pub invariant-compared_boundary-loop-i : goal.invariant-compared_boundary-loop-i
invariant-compared_boundary-loop-i l = record {
  prime : l.sum.p ≡ prime_of l.res.group;
  gathered : (d : ℕ) → length l.tuple ≡ suc d → l.sum.entries
      ≡ row_of l.res.group (rank_of l.res.group d)
      (up-to l.res.group d (tuple_of l.res.group (suc d) l.tuple) l.i);
}

use Rattle.std.proofs.Common.{ℕ, ◌<◌, get_or}
use Rattle.elementary_subgroups.proofs.Conjugates.{Carries}
use Rattle.elementary_subgroups.specs.Sets.{IsIn}
use Rattle.subgroup_list.proofs.classes.keeps.Given as goal

abbrev pub invariant-loop-x : goal.invariant-loop-x
invariant-loop-x l = (k : ℕ) → k < l.x-index → (y : ℕ) × IsIn y l.m × Carries l.g l.by (get_or l.m k 0) y

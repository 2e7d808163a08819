use Rattle.std.proofs.Common.{ℕ, ◌<◌, ◌↔◌}
use Rattle.group_table.specs.Tables.{product}
use Rattle.elementary_subgroups.specs.Sets.{IsIn}
use Rattle.subgroup_list.proofs.classes.conjugate_comes_before.Given as goal

abbrev pub invariant-loop-x : goal.invariant-loop-x
invariant-loop-x l = (k : ℕ) → k < l.x → IsIn k l.m ↔ IsIn (product l.g (product l.g l.by k) l.inverse) l.m

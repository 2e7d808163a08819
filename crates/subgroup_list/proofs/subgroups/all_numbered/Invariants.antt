use Rattle.std.proofs.Common.{◌≡◌, take}
use Rattle.elementary_subgroups.specs.Bases.{NumberedSubgroup, IsNumbered, members_of}
use Rattle.subgroup_list.specs.Search.{lists}
use Rattle.elementary_subgroups.specs.Sets.{IsIn}
use Rattle.subgroup_list.proofs.subgroups.all_numbered.Given as goal

abbrev pub invariant-loop-members : goal.invariant-loop-members
invariant-loop-members l = record {
  members_are : members_of l.subgroups.items ≡ lists (take l.members-index l.sets);
  numbered : (s : NumberedSubgroup) → IsIn s l.subgroups.items → IsNumbered l.g s;
}

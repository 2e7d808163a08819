use Rattle.std.proofs.Common.{◌≡◌, ◌/◌, ◌%◌, map}
use Rattle.elementary_subgroups.specs.Bases.{numbers}
use Rattle.elementary_subgroups.specs.OwnGroups.{digit_sum}
use Rattle.subgroup_list.proofs.own_tables.elementary_entries.Given as goal

abbrev pub invariant-loop-place : goal.invariant-loop-place
invariant-loop-place l =
    l.entries.items ≡ map (λ k. digit_sum l.p l.rank (k / l.size) (k % l.size)) (numbers l.place)

-- The subgroups of the list are numbered, and each has as many elements as its own group.
use Rattle.elementary_subgroups.proofs.Indices.{in_get}
use Rattle.elementary_subgroups.proofs.NumberedLists.{subgroup_in}
use Rattle.elementary_subgroups.proofs.OwnGroup.{images-own_order}
use Rattle.presentation_tests.proofs.subgroups.assert_numbered.Goals as goal

pub group-requires-2 : goal.group-requires-2
group-requires-2 g c =
    subgroup_in c.in_ok-group.group c.in_ok-subgroups.subgroups c.get-s.result.now c.in_ok-subgroups.ensures
    (in_get c.in_ok-subgroups.subgroups c.args.case.now.place c.get-s.result.now c.get-s.ensures)

pub assert_elements-requires : goal.assert_elements-requires
assert_elements-requires g c =
    images-own_order c.get-s.result.now c.in_ok-own.own
    (subgroup_in c.in_ok-group.group c.in_ok-subgroups.subgroups c.get-s.result.now c.in_ok-subgroups.ensures
    (in_get c.in_ok-subgroups.subgroups c.args.case.now.place c.get-s.result.now c.get-s.ensures)).numbered
    c.in_ok-own.ensures.own

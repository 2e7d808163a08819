use Rattle.std.proofs.Common.{◌≡◌}
use Rattle.std.specs.Prelude.{filter}
use Rattle.elementary_subgroups.specs.Cliques.{torsion_test}
use Rattle.elementary_subgroups.specs.Bases.{numbers}
use Rattle.subgroup_list.proofs.elements.torsion_elements.Given as goal

abbrev pub invariant-loop-x : goal.invariant-loop-x
invariant-loop-x l = l.v.items ≡ filter (torsion_test l.g) (numbers l.x)

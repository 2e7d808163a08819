use Rattle.std.proofs.Common.{◌≡◌, take, []}
use Rattle.presentation_rows.specs.Pivots.{new_relations}
use Rattle.cohomology_degree.proofs.relations.relations_of.Given as goal

-- those of the first rows of the kernel
abbrev pub invariant-loop-i : goal.invariant-loop-i
invariant-loop-i l = l.relations.items ≡ new_relations l.d l.monomials [] (take l.i l.kernel.rows)

use Rattle.std.proofs.Common.{◌≡◌, ◌++◌}
use Rattle.pc_text.specs.Canonical.{commutator_places, place_lines}
use Rattle.pc_text.proofs.writer.push_commutators.Given as goal

abbrev pub invariant-loop-j : goal.invariant-loop-j
invariant-loop-j l = l.text.items ≡ l.fn.text.items ++ place_lines l.p (commutator_places l.j)

use Rattle.std.proofs.Common.{◌≡◌, ◌++◌, map}
use Rattle.power_commutator.specs.Presentations.{range}
use Rattle.pc_text.specs.declared.place.Place.TheVariants.{Commutator}
use Rattle.pc_text.specs.Canonical.{place_lines}
use Rattle.pc_text.proofs.writer.push_row.Given as goal

abbrev pub invariant-loop-i : goal.invariant-loop-i
invariant-loop-i l = l.text.items ≡ l.fn.text.items ++ place_lines l.p
    (map (λ i. Commutator l.j i) (range 1 l.i))

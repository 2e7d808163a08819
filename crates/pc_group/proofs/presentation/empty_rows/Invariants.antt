use Rattle.std.proofs.Common.{◌≡◌, map, replicate}
use Rattle.power_commutator.specs.Presentations.{identity, range}
use Rattle.pc_group.specs.Parts.{exponents}
use Rattle.pc_group.proofs.presentation.empty_rows.Given as goal

abbrev pub invariant-loop-i : goal.invariant-loop-i
invariant-loop-i l =
    map (λ row. exponents row.items) l.rows.items ≡ map (λ i. replicate i (identity l.gens)) (range 0 l.i)

use Rattle.std.proofs.Common.{◌≡◌, replicate}
use Rattle.power_commutator.specs.Presentations.{identity}
use Rattle.pc_group.specs.Parts.{exponents}
use Rattle.pc_group.proofs.presentation.empty_words.Given as goal

abbrev pub invariant-loop-i : goal.invariant-loop-i
invariant-loop-i l = exponents l.words.items ≡ replicate l.i (identity l.gens)

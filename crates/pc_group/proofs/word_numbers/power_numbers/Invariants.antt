-- The numbers before j stand in the list.
use Rattle.pc_group.specs.Tables.{Each}
use Rattle.pc_group.specs.WordNumbers.{IsPowerNumber}
use Rattle.pc_group.proofs.word_numbers.power_numbers.Given as goal

abbrev pub invariant-loop-j : goal.invariant-loop-j
invariant-loop-j l = Each (IsPowerNumber l.p) l.j l.out.items

-- The numbers before place c stand in the list.
use Rattle.pc_group.specs.Tables.{Each}
use Rattle.pc_group.specs.WordNumbers.{IsCommutatorNumber}
use Rattle.pc_group.proofs.word_numbers.commutator_numbers.Given as goal

abbrev pub invariant-loop-c : goal.invariant-loop-c
invariant-loop-c l = Each (IsCommutatorNumber l.p) l.c l.out.items

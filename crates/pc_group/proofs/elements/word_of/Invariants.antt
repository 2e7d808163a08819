-- The exponents before i are there, and the rest are those of the quotient.
use Rattle.std.proofs.Common.{◌≡◌, ◌-◌, ◌++◌, length}
use Rattle.power_commutator.specs.Presentations.{word_of}
use Rattle.pc_group.proofs.elements.word_of.Given as goal

abbrev pub invariant-loop-i : goal.invariant-loop-i
invariant-loop-i l = record {
  exponents : l.word.items ++ word_of l.c.prime (l.c.gens - l.i) l.rest ≡ word_of l.c.prime l.c.gens l.fn.e;
  count : length l.word.items ≡ l.i;
  room : l.word.capacity ≡ 8;
}

-- x is the number of the last s exponents.
use Rattle.std.proofs.Common.{◌≡◌, ◌-◌, drop}
use Rattle.power_commutator.specs.Presentations.{number}
use Rattle.pc_group.proofs.word_numbers.word_number.Given as goal

abbrev pub invariant-loop-s : goal.invariant-loop-s
invariant-loop-s l = l.x ≡ number l.prime (drop (l.count - l.s) l.word)

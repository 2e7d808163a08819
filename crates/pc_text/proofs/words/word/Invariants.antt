use Rattle.std.proofs.Common.{length}
use Rattle.pc_text.specs.Views.{names_of}
use Rattle.pc_text.proofs.WordLemmas.{Going}
use Rattle.pc_text.proofs.words.word.Given as goal

abbrev pub invariant-loop-k : goal.invariant-loop-k
invariant-loop-k l =
    Going (names_of l.generators) l.fn.least l.fn.column l.fn.bytes l.last l.at l.exponents.items l.rest

abbrev pub decreases-loop-k : goal.decreases-loop-k
decreases-loop-k l = length l.rest

use Rattle.std.proofs.Common.{length}
use Rattle.pc_text.specs.Views.{names_of}
use Rattle.pc_text.specs.Views.{all_shown}
use Rattle.pc_text.proofs.TextLemmas.{Left}
use Rattle.pc_text.proofs.texts.relations_of.Given as goal

abbrev pub invariant-loop-rest : goal.invariant-loop-rest
invariant-loop-rest l = Left (names_of l.generators) l.fn.text (all_shown l.found.items) l.number l.rest

abbrev pub decreases-loop-rest : goal.decreases-loop-rest
decreases-loop-rest l = length l.rest

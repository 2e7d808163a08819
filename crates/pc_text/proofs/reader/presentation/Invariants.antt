use Rattle.pc_text.proofs.Made.{Made}
use Rattle.pc_text.proofs.reader.presentation.Given as goal

abbrev pub invariant-loop-relation : goal.invariant-loop-relation
invariant-loop-relation l = Made l.fn.content l.relation-index l.made

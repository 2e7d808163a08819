use Rattle.pc_text.proofs.WriterLemmas.{Joined}
use Rattle.pc_text.proofs.writer.push_factors.Given as goal

abbrev pub invariant-loop-k : goal.invariant-loop-k
invariant-loop-k l = Joined l.fn.text.items l.word l.k l.text.items l.joined

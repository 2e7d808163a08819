use Rattle.pc_text.proofs.CutsLemmas.{content_by_cuts}
use Rattle.pc_text.proofs.Kept.{result_kept}
use Rattle.pc_text.proofs.texts.content_of.Goals as goal

pub returns-clause-gives : goal.returns-clause-gives
returns-clause-gives c = rw (content_by_cuts c.args.text.now) at c.content_by_cuts.ensures

pub returns-clause-kept : goal.returns-clause-kept
returns-clause-kept c = result_kept c.args.text.now c.content_by_cuts.result
    (rw (content_by_cuts c.args.text.now) at c.content_by_cuts.ensures)

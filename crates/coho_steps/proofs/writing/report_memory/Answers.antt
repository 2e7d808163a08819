use Rattle.coho_steps.proofs.Written.{AppendsFront_either}
use Rattle.coho_steps.proofs.writing.report_memory.Goals as goal

pub returns : goal.returns
returns g c = AppendsFront_either c.write.result _ _ _ c.write.ensures.ok c.write.ensures.err

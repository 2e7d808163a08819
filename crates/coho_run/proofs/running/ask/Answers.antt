use Rattle.coho_words.specs.Words.{texts}
use Rattle.coho_run.proofs.Asked.{reads, stopped}
use Rattle.coho_run.proofs.running.ask.Goals as goal

pub returns-in-Ok-clause-step : goal.returns-in-Ok-clause-step
returns-in-Ok-clause-step c = reads (texts c.args.words.now) c.in-Ok.command c.in-Ok.ensures.command

pub returns-in-Err-clause-step : goal.returns-in-Err-clause-step
returns-in-Err-clause-step c = rw c.stop_of.ensures (stopped (texts c.args.words.now) c.in-Err.fault
    c.in-Err.ensures.refused)

use Rattle.coho_run.proofs.Outcomes.{outcome_exists}
use Rattle.coho_run.proofs.running.outcome_exists.Goals as goal

pub returns : goal.returns
returns c = outcome_exists

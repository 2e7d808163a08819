use Rattle.coho_run.proofs.Outcomes.{outcome_unique}
use Rattle.coho_run.proofs.running.outcome_is_unique.Goals as goal

pub returns : goal.returns
returns c = outcome_unique

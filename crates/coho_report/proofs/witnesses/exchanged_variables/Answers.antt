use Rattle.coho_report.proofs.ExchangedVariables.{one-variable}
use Rattle.coho_report.proofs.witnesses.exchanged_variables.Goals as goal

pub returns : goal.returns
returns c = one-variable

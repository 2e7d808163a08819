use Rattle.coho_report.proofs.ZeroParameters.{zero-parameters}
use Rattle.coho_report.proofs.witnesses.zero_parameters.Goals as goal

pub returns : goal.returns
returns c = zero-parameters

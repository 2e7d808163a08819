use Rattle.coho_report.proofs.CohomologyReports.{cohomology-report}
use Rattle.coho_report.proofs.laws.cohomology_law.Goals as goal

pub returns : goal.returns
returns c G n r R = cohomology-report G n r R

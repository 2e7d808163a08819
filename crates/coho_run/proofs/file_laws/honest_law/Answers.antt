use Rattle.coho_run.proofs.FileLaws.{honest_accepted}
use Rattle.coho_run.proofs.file_laws.honest_law.Goals as goal

pub returns : goal.returns
returns c = honest_accepted

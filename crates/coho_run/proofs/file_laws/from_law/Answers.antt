use Rattle.coho_run.proofs.FileLaws.{without_it}
use Rattle.coho_run.proofs.file_laws.from_law.Goals as goal

pub returns : goal.returns
returns c = without_it

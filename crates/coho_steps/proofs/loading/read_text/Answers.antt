use Rattle.coho_steps.proofs.Loads.{length_then}
use Rattle.coho_steps.proofs.loading.read_text.Goals as goal

pub returns : goal.returns
returns c = length_then c.args.text.now c.present.result c.in_ok-fit_length.ensures.step c.present.ensures

use Rattle.coho_io.specs.Content.{file}
use Rattle.coho_steps.proofs.Fronts.{part_read}
use Rattle.coho_io.proofs.Parts.{front_start}
use Rattle.coho_steps.proofs.reading.read_front.Goals as goal

pub returns-in-Ok-clause-step : goal.returns-in-Ok-clause-step
returns-in-Ok-clause-step g c = λ told is.
    part_read (file told c.args.path.now) c.args.path.now c.read_to.new.bytes.items told
    (c.in-Ok.ensures.part told is (front_start (file told c.args.path.now) c.new-text.result.items
    c.new-text.ensures.items))

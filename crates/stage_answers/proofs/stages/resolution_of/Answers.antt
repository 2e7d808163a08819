use Rattle.stage_answers.proofs.StageRows.{resolution_to, stage_stop}
use Rattle.stage_answers.proofs.stages.resolution_of.Goals as goal

pub returns-in-Ok-clause-found : goal.returns-in-Ok-clause-found
returns-in-Ok-clause-found c = resolution_to c.args.consistent.now c.args.n c.in_ok-algebra.algebra
    c.in_ok-resolution.resolution c.in_ok-algebra.ensures c.in_ok-resolution.ensures
    c.extend_to.new.resolution c.extend_to.ensures.group c.in-Ok.ensures.last c.in-Ok.ensures.fit

pub returns-clause-refused : goal.returns-clause-refused
returns-clause-refused c = rw c.stop_of.ensures (stage_stop c.args.consistent.now c.args.n
    c.in_ok-algebra.algebra c.in_ok-resolution.resolution c.in_ok-algebra.ensures c.in_ok-resolution.ensures
    c.in-Err.fault c.in-Err.ensures.refused)

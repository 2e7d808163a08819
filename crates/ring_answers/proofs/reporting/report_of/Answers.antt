use Rattle.ring_answers.proofs.Ringing.{report_of, report_stop}
use Rattle.ring_answers.proofs.reporting.report_of.Goals as goal

pub returns-in-Ok-clause-found : goal.returns-in-Ok-clause-found
returns-in-Ok-clause-found c = λ P R.
    report_of P c.args.n c.args.resolution.now R c.in-Ok.report c.in-Ok.ensures.small c.in-Ok.ensures.report

pub returns-in-Err-clause-refused : goal.returns-in-Err-clause-refused
returns-in-Err-clause-refused c = λ P R.
    rw c.stop_of.ensures (report_stop P c.args.n c.args.resolution.now R c.in-Err.fault c.in-Err.ensures.refused)

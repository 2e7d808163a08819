use Rattle.std.proofs.lemmas.Result.{err_from_is_err_and}
use Rattle.ring_answers.specs.Answers.{TellReport}
use Rattle.coho_steps.proofs.Chain.{memory_settles}
use Rattle.coho_steps.proofs.Lines.{lines_of}
use Rattle.ring_answers.proofs.Replies.{ring_then, ring_too_large}
use Rattle.ring_answers.proofs.answering.ring_lines.Goals as goal

pub returns-in_err-report : goal.returns-in_err-report
returns-in_err-report c = λ P R.
    let p = err_from_is_err_and c.from_residual.result c.from_residual.ensures.1 in
    rw (p.1, p.2) (ring_too_large P c.args.n _
    (c.in_err-report.ensures.refused P R))

pub returns-in_err-report_lines : goal.returns-in_err-report_lines
returns-in_err-report_lines c = λ P R.
    let p = err_from_is_err_and c.from_residual-in_err-report_lines.result
    c.from_residual-in_err-report_lines.ensures.1 in
    rw p.1 (memory_settles lines_of (TellReport P c.args.n) p.0 p.2)

pub returns : goal.returns
returns c = λ P R.
    ring_then P c.args.n c.in_ok-report.report c.in_ok-report_lines.field-0
    (c.in_ok-report.ensures.found P R) c.in_ok-report_lines.ensures

use Rattle.std.proofs.lemmas.Result.{err_from_is_err_and}
use Rattle.ring_answers.specs.Answers.{AnswerSample}
use Rattle.coho_steps.proofs.Chain.{memory_settles}
use Rattle.coho_steps.proofs.Lines.{lines_of}
use Rattle.ring_answers.proofs.Replies.{sample_refused, sample_then, sample_too_large}
use Rattle.ring_answers.proofs.Ringing.{fit_of}
use Rattle.ring_answers.proofs.answering.answer_sample.Goals as goal

pub returns-in_err-resolution : goal.returns-in_err-resolution
returns-in_err-resolution c =
    let p = err_from_is_err_and c.from_residual.result c.from_residual.ensures.1 in
    rw (p.1, p.2) (sample_refused c.args.consistent.now c.args.k c.in_err-resolution.field-0.0
    c.in_err-resolution.ensures.refused)

pub returns-in_err-report : goal.returns-in_err-report
returns-in_err-report c =
    let p = err_from_is_err_and c.from_residual-in_err-report.result c.from_residual-in_err-report.ensures.1
    in
    let P = c.args.consistent.now in
    let R = c.in_ok-resolution.ensures.found in
    rw (p.1, p.2) (sample_too_large P c.args.k (fit_of P 4 c.in_ok-resolution.resolution R) _
    (c.in_err-report.ensures.refused P R))

pub returns-in_err-sample_lines : goal.returns-in_err-sample_lines
returns-in_err-sample_lines c =
    let p = err_from_is_err_and c.from_residual-in_err-sample_lines.result
    c.from_residual-in_err-sample_lines.ensures.1 in
    rw p.1 (memory_settles lines_of (AnswerSample c.args.consistent.now c.args.k) p.0 p.2)

pub returns : goal.returns
returns c =
    let P = c.args.consistent.now in
    let R = c.in_ok-resolution.ensures.found in
    sample_then P c.args.k (fit_of P 4 c.in_ok-resolution.resolution R) c.in_ok-report.report
    c.in_ok-sample_lines.field-0
    (c.in_ok-report.ensures.found P R) c.in_ok-sample_lines.ensures

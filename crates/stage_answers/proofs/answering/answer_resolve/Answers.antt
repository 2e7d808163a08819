use Rattle.std.proofs.lemmas.Result.{err_from_is_err_and}
use Rattle.coho_steps.specs.Lines.{contents}
use Rattle.stage_answers.specs.Answers.{AnswerResolve}
use Rattle.coho_steps.proofs.Chain.{memory_settles}
use Rattle.coho_steps.proofs.Lines.{lines_of}
use Rattle.stage_answers.proofs.Replies.{resolve_refused, resolve_then}
use Rattle.stage_answers.proofs.StageRows.{stages_of}
use Rattle.stage_answers.proofs.answering.answer_resolve.Goals as goal

pub returns-in_err-resolution : goal.returns-in_err-resolution
returns-in_err-resolution c =
    let p = err_from_is_err_and c.from_residual.result c.from_residual.ensures.1 in
    rw (p.1, p.2) (resolve_refused c.args.consistent.now c.args.n c.in_err-resolution.field-0.0
    c.in_err-resolution.ensures.refused)

pub returns-in_err-stage_lines : goal.returns-in_err-stage_lines
returns-in_err-stage_lines c =
    let p = err_from_is_err_and c.from_residual-in_err-stage_lines.result
    c.from_residual-in_err-stage_lines.ensures.1 in
    rw p.1 (memory_settles lines_of (AnswerResolve c.args.consistent.now c.args.n) p.0 p.2)

pub returns : goal.returns
returns c =
    let found = stages_of c.args.consistent.now c.args.n c.in_ok-resolution.resolution
    c.in_ok-resolution.ensures.found
    (contents c.in_ok-stage_lines.field-0.items) c.in_ok-stage_lines.ensures in
    resolve_then c.args.consistent.now c.args.n found.0 c.in_ok-stage_lines.field-0 found.1 found.2

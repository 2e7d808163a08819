use Rattle.std.proofs.Common.{◌≡◌, subst}
use Rattle.std.proofs.lemmas.Result.{err_from_is_err_and}
use Rattle.coho_steps.specs.Lines.{contents}
use Rattle.stage_answers.specs.Answers.{AnswerGroup, group_lines}
use Rattle.coho_steps.proofs.Chain.{memory_settles}
use Rattle.stage_answers.proofs.Replies.{group_then}
use Rattle.coho_steps.proofs.Lines.{lines_of}
use Rattle.stage_answers.proofs.answering.answer_group.Goals as goal

pub returns-in_err-dimensions : goal.returns-in_err-dimensions
returns-in_err-dimensions c =
    let p = err_from_is_err_and c.from_residual.result c.from_residual.ensures.1 in
    rw p.1 (memory_settles lines_of (AnswerGroup c.args.consistent.now) p.0 p.2)

pub returns-in_err-group_lines : goal.returns-in_err-group_lines
returns-in_err-group_lines c =
    let p = err_from_is_err_and c.from_residual-in_err-group_lines.result
    c.from_residual-in_err-group_lines.ensures.1 in
    rw p.1 (memory_settles lines_of (AnswerGroup c.args.consistent.now) p.0 p.2)

pub returns : goal.returns
returns c =
    group_then c.args.consistent.now c.in_ok-dimensions.dimensions.items c.in_ok-group_lines.field-0
    c.in_ok-dimensions.ensures
    (subst (λ xs. contents c.in_ok-group_lines.field-0.items
    ≡ group_lines c.args.consistent.now xs) c.deref.ensures.value c.in_ok-group_lines.ensures)

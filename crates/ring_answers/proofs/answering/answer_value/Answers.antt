use Rattle.std.proofs.lemmas.Result.{err_from_is_err_and}
use Rattle.ring_answers.specs.Answers.{AnswerValue}
use Rattle.coho_steps.proofs.Chain.{memory_settles}
use Rattle.ring_answers.proofs.Evaluated.{below_order, class_refused, has_class, has_value}
use Rattle.ring_answers.proofs.Replies.{class_stop, stage_stop, value_then}
use Rattle.coho_steps.proofs.Lines.{lines_of}
use Rattle.ring_answers.proofs.Ringing.{fit_of}
use Rattle.ring_answers.proofs.answering.answer_value.Goals as goal

pub returns-in_err-resolution : goal.returns-in_err-resolution
returns-in_err-resolution c =
    let p = err_from_is_err_and c.from_residual-in_err-resolution.result
    c.from_residual-in_err-resolution.ensures.1 in
    rw (p.1, p.2) (stage_stop c.args.consistent.now c.args.class c.args.elements.now
    c.in_ok-fit_elements.ensures.step c.in_err-resolution.field-0.0 c.in_err-resolution.ensures.refused)

pub basis_value-requires-clause-below : goal.basis_value-requires-clause-below
basis_value-requires-clause-below c =
    below_order c.args.consistent.now _ c.in_ok-resolution.resolution c.in_ok-resolution.ensures.found
    c.args.class c.args.elements.now c.in_ok-fit_elements.ensures.below

pub returns-in_err-value : goal.returns-in_err-value
returns-in_err-value c =
    let p = err_from_is_err_and c.from_residual-in_err-value.result c.from_residual-in_err-value.ensures.1 in
    let P = c.args.consistent.now in
    let R = c.in_ok-resolution.ensures.found in
    rw (p.1, p.2) (class_stop P c.args.class c.args.elements.now c.in_ok-fit_elements.ensures.step
    (fit_of P _ c.in_ok-resolution.resolution R) c.in_err-value.field-0.0
    (class_refused P _ c.in_ok-resolution.resolution R c.args.class c.args.elements.now
    c.in_err-value.field-0.0 c.in_err-value.ensures.refused))

pub returns-in_err-value_lines : goal.returns-in_err-value_lines
returns-in_err-value_lines c =
    let p = err_from_is_err_and c.from_residual-in_err-value_lines.result
    c.from_residual-in_err-value_lines.ensures.1 in
    rw p.1 (memory_settles lines_of (AnswerValue c.args.consistent.now c.args.class c.args.elements.now) p.0
    p.2)

pub returns : goal.returns
returns c =
    let P = c.args.consistent.now in
    let R = c.in_ok-resolution.ensures.found in
    value_then P c.args.class c.args.elements.now c.in_ok-fit_elements.ensures.step
    (fit_of P _ c.in_ok-resolution.resolution R) c.in_ok-value.value c.in_ok-value_lines.field-0
    (has_class P _ c.in_ok-resolution.resolution R c.args.class c.args.elements.now c.in_ok-value.ensures.has)
    (has_value P _ c.in_ok-resolution.resolution R c.args.class c.args.elements.now c.in_ok-value.value
    c.in_ok-value.ensures.value) c.in_ok-value_lines.ensures

use Rattle.std.proofs.Common.{◌∙◌, sym, subst, All, ◌<◌}
use Rattle.ring_answers.proofs.Evaluated.{all_below, element_refused_is, elements_fit, same_order}
use Rattle.ring_answers.proofs.evaluating.fit_elements.Goals as goal

pub returns-in-Some-clause-step : goal.returns-in-Some-clause-step
returns-in-Some-clause-step c = λ files.
    element_refused_is c.args.consistent.now c.args.elements.now c.order-order.result
    (c.order-order.ensures.value ∙ same_order c.args.consistent.now c.group.result.now c.group.ensures.group)
    files c.in-Some.element c.in-Some.ensures

pub returns-in-None-clause-step : goal.returns-in-None-clause-step
returns-in-None-clause-step c = λ files.
    elements_fit c.args.consistent.now c.args.elements.now c.order-order.result
    (c.order-order.ensures.value ∙ same_order c.args.consistent.now c.group.result.now c.group.ensures.group)
    files c.in-None.ensures

pub returns-in-None-clause-below : goal.returns-in-None-clause-below
returns-in-None-clause-below c =
    subst (λ n. All (λ e. e < n) c.args.elements.now)
    (c.order-order.ensures.value ∙ same_order c.args.consistent.now c.group.result.now c.group.ensures.group)
    (all_below c.order-order.result c.args.elements.now (sym c.in-None.ensures))

use Rattle.coho_steps.proofs.Loads.{order_then}
use Rattle.coho_steps.proofs.loading.accept.Goals as goal

pub returns : goal.returns
returns c =
    order_then c.args.presentation c.pass_tests.result c.in_ok-fit_order.ensures.step
    c.pass_tests.ensures

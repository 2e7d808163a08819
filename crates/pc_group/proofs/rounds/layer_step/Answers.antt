-- No test is false, and the table is the layer's product.
use Rattle.std.proofs.Common.{sym, ◌∙◌}
use Rattle.pc_group.proofs.rounds.layer_step.Goals as goal

pub returns-in_ok-product-in-None : goal.returns-in_ok-product-in-None
returns-in_ok-product-in-None c P m R =
    (sym (c.fault.ensures P m R) ∙ c.in-None.is, c.in_ok-product-in-None.ensures P m R)

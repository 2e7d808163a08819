use Rattle.std.proofs.Common.{length, ap, ◌∙◌}
use Rattle.std.proofs.lemmas.List.{length-replicate}
use Rattle.linear_algebra.specs.Kernels.{unit_row}
use Rattle.p_groups.specs.PGroups.{order_of}
use Rattle.fp_rows.specs.Values.{RowValue}
use Rattle.bar_eval.proofs.ComparisonRows.{unit-coefficients}
use Rattle.bar_eval.proofs.comparison.one.Goals as goal

pub returns-clause-value : goal.returns-clause-value
returns-clause-value c = c.to_layers.ensures.layers _
    (unit-coefficients c.args.algebra.now _ (c.view.ensures.entries
    ∙ ap (λ (r : RowValue). r.entries) c.set_unit.ensures
    ∙ ap (λ n. unit_row n 0) (ap (λ (r : RowValue). length r.entries) c.in_ok-unit.ensures
    ∙ length-replicate c.order-order.result 0 ∙ c.order-order.ensures.value
    ∙ ap order_of c.group-2.ensures)))

use Rattle.std.proofs.Common.{◌≡◌, ◌+◌, arith, ap, ◌∙◌, refl}
use Rattle.p_groups.specs.PGroups.{PGroup}
use Rattle.group_table.specs.Tables.{order}
use Rattle.linear_algebra.specs.Kernels.{unit_row}
use Rattle.min_res.proofs.FirstKernel.{first-value}
use Rattle.min_res.proofs.first.first_stage.Goals as goal

pub returns-clause-stage : goal.returns-clause-stage
returns-clause-stage c =
    let n : c.order.result ≡ order c.args.algebra.now.table = c.order.ensures.value
    ∙ ap (λ (G : PGroup). order G.table) c.group-group.ensures in
    record {
      degree_is = refl;
      rank_is = refl;
      kernel_is = c.in_ok-kernel.ensures.ok
          ∙ first-value c.args.algebra.now c.in_ok-units.units c.in_ok-echelon.field-0
          (c.in_ok-units.ensures.prime ∙ c.prime.ensures
          ∙ ap (λ (G : PGroup). G.table.p) c.group-group.ensures) (c.in_ok-units.ensures.width ∙ n)
          (c.in_ok-units.ensures.count ∙ n) (λ i l. c.in_ok-units.ensures.rows i l
          ∙ ap (λ k. unit_row k (i + 1)) n)
          c.in_ok-echelon.ensures.prime c.in_ok-echelon.ensures.width c.in_ok-echelon.ensures.rows;
      none_at_zero = λ e. refl;
      boundary_is = λ k e. absurd (omega (arith, e));
    }

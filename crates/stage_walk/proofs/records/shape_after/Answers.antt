use Rattle.std.proofs.Common.{◌≤◌, ◌^◌, length, arith, sym, ◌∙◌, ap, subst}
use Rattle.fp_rows.specs.Values.{MatrixValue}
use Rattle.min_res.specs.Values.{StageValue}
use Rattle.stage_records.proofs.Sizes.{echelon-few}
use Rattle.stage_walk.proofs.records.shape_after.Goals as goal

pub overflow_cast-result-2 : goal.overflow_cast-result-2
overflow_cast-result-2 c =
    let width : c.kernel.result.now.width ≤ 2 ^ 28 = subst (λ (m : MatrixValue). m.width ≤ 2 ^ 28)
    (sym (c.kernel.ensures ∙ ap (λ (s : StageValue). s.kernel) c.deref.ensures)) c.stage_at.ensures.small in
    let few : length c.kernel.result.now.rows ≤ c.kernel.result.now.width = echelon-few c.kernel.result.now.p
    c.kernel.result.now.width c.kernel.result.now.rows c.rows.ensures.matrix c.rows.ensures.echelon in
    omega (arith, width, few, c.rows.ensures.count)

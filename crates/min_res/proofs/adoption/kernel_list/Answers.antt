use Rattle.std.proofs.Common.{ap}
use Rattle.fp_rows.specs.Values.{MatrixValue}
use Rattle.min_res.specs.declared.check.Check.TheVariants as check_of
use Rattle.min_res.proofs.NextParts.{first-bad}
use Rattle.min_res.proofs.adoption.kernel_list.Goals as goal

pub returns-in-Err-Not-clause-refused : goal.returns-in-Err-Not-clause-refused
returns-in-Err-Not-clause-refused g c =
    let h = rw c.in-Err-Not.field-0-is at c.in-Err-Not.ensures.refused in (
      check_of.ReducedKernel,
      c.number.ensures,
      first-bad c.args.algebra.now c.args.last.now.degree (g.S.StageParts.parts c.args.given.now)
          c.in_ok-rows.rows.rows c.in-Err-Not.row (ap (λ (m : MatrixValue). m.rows) c.in_ok-rows.ensures) h.1,
    )

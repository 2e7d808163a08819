use Rattle.std.proofs.Common.{length, arith, ap, ◌∙◌}
use Rattle.fp_rows.specs.Values.{MatrixValue}
use Rattle.min_res.specs.Values.{boundary_of}
use Rattle.stage_file.proofs.Appended.{rows-step}
use Rattle.stage_file.proofs.writing.push_sections.Goals as goal

pub loop-i-preserved : goal.loop-i-preserved
loop-i-preserved c =
    rows-step _ _ c.args.out.now.items _
    (boundary_of c.args.s.now).sections.rows c.loop-i.i c.in_ok-push_row.ensures c.loop-i.invariant
    c.section_row.ensures.entries
    (omega (
      arith,
      c.loop-i-test.true,
      c.rows-i-end.ensures.count,
      c.requires.count,
      ap
          (λ (m : MatrixValue). length m.rows) (c.deref.ensures ∙ c.in-Some.ensures.source),
    ))

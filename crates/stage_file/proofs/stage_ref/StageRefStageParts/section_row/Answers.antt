use Rattle.std.proofs.Common.{◌<◌, sym, ◌∙◌, arith}
use Rattle.stage_records.proofs.Bytes.{length-rows_in}
use Rattle.stage_file.proofs.Rows.{row-of, row-inside}
use Rattle.stage_file.proofs.stage_ref.StageRefStageParts.section_row.Goals as goal

pub row_of-requires-clause-inside : goal.row_of-requires-clause-inside
row_of-requires-clause-inside c =
    let l : c.args.i < c.args.self.now.previous
    = omega (
      arith,
      c.requires,
      length-rows_in c.args.self.now.width c.args.self.now.previous
          c.args.self.now.sections.now,
    ) in
    omega (
      arith,
      row-inside c.args.self.now.width c.args.self.now.previous c.args.i l,
      c.args.self.now.are_views.section_size,
    )

pub returns-clause-entries : goal.returns-clause-entries
returns-clause-entries c =
    let l : c.args.i < c.args.self.now.previous
    = omega (
      arith,
      c.requires,
      length-rows_in c.args.self.now.width c.args.self.now.previous
          c.args.self.now.sections.now,
    ) in
    c.row_of.ensures.entries ∙ sym
    (row-of c.args.self.now.width c.args.self.now.previous c.args.self.now.sections.now c.args.i l)

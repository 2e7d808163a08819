use Rattle.std.proofs.Common.{◌≡◌, ◌<◌, ◌+◌, ◌*◌, ◌/◌, ◌%◌, length, ap, sym, ◌∙◌}
use Rattle.group_table.specs.Tables.{order}
use Rattle.linear_algebra.specs.Rows.{entry, row}
use Rattle.fp_rows.specs.Refs.{entries_of}
use Rattle.group_algebra.specs.Coefficients.{IsTranslate}
use Rattle.fp_rows.specs.Values.{RowValue}
use Rattle.group_algebra.proofs.Combined.{IsCombined, combined, length-combination_row, positive}
use Rattle.group_algebra.specs.Tables.{IsTranslateRow}
use Rattle.group_algebra.proofs.TableLemmas.{each-pushed, elements-matrix, shape-pushed, split, translate-row}
use Rattle.group_algebra.proofs.tables.translate_rows.Goals as goal

pub push-requires-clause-same_width : goal.push-requires-clause-same_width
push-requires-clause-same_width c =
    ap length (c.view-in-loop-i.ensures.entries ∙ ap (λ (r : RowValue). r.entries) c.combine.ensures)
    ∙ length-combination_row c.args.elements.now.p c.args.elements.now.width (entry (entries_of c.view.result))
    c.args.elements.now.rows ∙ c.requires.elements.width ∙ sym c.loop-i.invariant.1.width

pub loop-i-preserved : goal.loop-i-preserved
loop-i-preserved c =
    let n : c.order-n.result ≡ order c.args.group.now.table = c.loop-i.invariant.0.0 in
    let some : 0 < order c.args.group.now.table = c.args.group.now.law.law.some in
    let inside : c.loop-i.i < order c.args.group.now.table * order c.args.group.now.table =
    rw n at c.loop-i-test.true in
    let s : (c.loop-i.i ≡ c.loop-i.i / order c.args.group.now.table * order c.args.group.now.table +
    c.loop-i.i % order c.args.group.now.table)
    × (c.loop-i.i / order c.args.group.now.table < order c.args.group.now.table)
    × (c.loop-i.i % order c.args.group.now.table < order c.args.group.now.table)
    = split (order c.args.group.now.table) c.loop-i.i some inside in
    let T : IsTranslate c.args.group.now.table (c.loop-i.i % order c.args.group.now.table)
    (row c.args.members.now.rows (c.loop-i.i / order c.args.group.now.table))
    c.write_translate.new.out.entries
    = rw (c.row.ensures.entries, n, c.as_group.ensures) at c.write_translate.ensures.translate in
    let E = c.requires.elements in
    let C : IsCombined c.args.group.now.table.p
    (order c.args.group.now.table) c.write_translate.new.out.entries
    (row c.args.elements.now.rows) c.combine.new.out.entries =
    combined c.write_translate.new.out.entries c.args.elements.now.rows _ (positive c.args.group.now)
    (elements-matrix c.args.group.now c.args.elements.now.rows E.rows c.requires.element_rows) E.rows
    (rw (c.view.ensures.entries, E.prime, E.width) at
    (ap (λ (r : RowValue). r.entries) c.combine.ensures)) in (
      c.loop-i.invariant.0,
      shape-pushed c.args.group.now c.loop-i.i c.loop-i.m c.push.new.self
          (entries_of c.view-in-loop-i.result) c.loop-i.invariant.1 c.in_ok-push.ensures.pushed,
      (c.write_translate.ensures.prime ∙ c.loop-i.invariant.2.0, T.is_row.length_is),
      (ap (λ (r : RowValue). r.p) c.combine.ensures ∙ c.loop-i.invariant.3.0, C.is_row.length_is),
      rw c.in_ok-push.ensures.pushed (each-pushed (IsTranslateRow c.args.group.now) c.loop-i.m.rows
          (entries_of c.view-in-loop-i.result) c.loop-i.invariant.4
          (rw (c.loop-i.invariant.1.rows, c.view-in-loop-i.ensures.entries)
          (translate-row c.args.group.now c.args.members.now.rows c.args.elements.now.rows c.loop-i.i
          (c.loop-i.i / order c.args.group.now.table) (c.loop-i.i % order c.args.group.now.table)
          c.write_translate.new.out.entries c.combine.new.out.entries c.requires.member_rows
          c.requires.elements.rows c.requires.element_rows s.0 s.2 T C))),
    )

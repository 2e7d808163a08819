use Rattle.std.proofs.Common.{◌≡◌, ℕ, List, length, ap, sym, ◌∙◌}
use Rattle.group_table.specs.Tables.{order}
use Rattle.linear_algebra.specs.Kernels.{unit_row}
use Rattle.linear_algebra.specs.Rows.{combination_row, entry}
use Rattle.linear_algebra.proofs.AugmentLemmas.{length-unit_row}
use Rattle.fp_rows.specs.Refs.{entries_of}
use Rattle.fp_rows.specs.Values.{RowValue}
use Rattle.group_algebra.specs.Coefficients.{AreSumCoordinates}
use Rattle.group_algebra.specs.Tables.{IsElementRow}
use Rattle.group_algebra.proofs.Combined.{length-combination_row}
use Rattle.group_algebra.proofs.TableLemmas.{each-pushed, shape-pushed, element-row}
use Rattle.group_algebra.proofs.tables.element_rows.Goals as goal

pub push-requires-clause-same_width : goal.push-requires-clause-same_width
push-requires-clause-same_width c =
    ap length (c.view-in-loop-g-2.ensures.entries ∙ ap (λ (r : RowValue). r.entries) c.combine.ensures)
    ∙ length-combination_row c.args.units.now.p c.args.units.now.width
    (entry (entries_of c.view-in-loop-g.result)) c.args.units.now.rows ∙ c.requires.units.width ∙ sym c.loop-g.invariant.1.width

pub loop-g-preserved : goal.loop-g-preserved
loop-g-preserved c =
    let P : ℕ = c.args.group.now.table.p in
    let n : ℕ = order c.args.group.now.table in
    let U : List (List ℕ) = c.args.units.now.rows in
    let s : List ℕ = c.write_sum_coordinates.new.out.entries in
    let unit : entries_of c.view.result ≡ unit_row n c.loop-g.g =
    rw (c.view.ensures.entries, c.set_unit.ensures, c.loop-g.invariant.2.1) in
    let p : c.set_unit.new.self.p ≡ P = ap (λ (r : RowValue). r.p) c.set_unit.ensures
    ∙ c.loop-g.invariant.2.0 in
    let S : AreSumCoordinates P n (unit_row n c.loop-g.g) s =
    rw (
      c.view.ensures.modulus,
      p,
      unit,
      length-unit_row n c.loop-g.g,
    ) at c.write_sum_coordinates.ensures.coordinates in
    let e : c.combine.new.out.entries ≡ combination_row P n (entry s) U =
    rw (
      c.view-in-loop-g.ensures.entries,
      c.requires.units.prime,
      c.requires.units.width,
    ) at (ap (λ (r : RowValue). r.entries) c.combine.ensures) in
    let count : length c.combine.new.out.entries ≡ n =
    ap length e ∙ length-combination_row P n (entry s) U in (
      c.loop-g.invariant.0,
      shape-pushed c.args.group.now c.loop-g.g c.loop-g.m c.push.new.self
          (entries_of c.view-in-loop-g-2.result) c.loop-g.invariant.1 c.in_ok-push.ensures.pushed,
      (
        p,
        ap (λ (r : RowValue). length r.entries) c.set_unit.ensures ∙ length-unit_row _ c.loop-g.g
            ∙ c.loop-g.invariant.2.1,
      ),
      (c.write_sum_coordinates.ensures.prime ∙ c.loop-g.invariant.3.0, S.coordinates.length_is),
      (ap (λ (r : RowValue). r.p) c.combine.ensures ∙ c.loop-g.invariant.4.0, count),
      rw c.in_ok-push.ensures.pushed (each-pushed (IsElementRow c.args.group.now) c.loop-g.m.rows
          (entries_of c.view-in-loop-g-2.result) c.loop-g.invariant.5
          (rw (c.loop-g.invariant.1.rows, c.view-in-loop-g-2.ensures.entries)
          (element-row c.args.group.now U c.loop-g.g s c.combine.new.out.entries c.requires.rows S e))),
    )

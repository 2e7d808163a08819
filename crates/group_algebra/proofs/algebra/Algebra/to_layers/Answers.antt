use Rattle.std.proofs.Common.{◌≡◌, ap, ◌∙◌}
use Rattle.group_table.specs.Tables.{order}
use Rattle.linear_algebra.specs.Rows.{row}
use Rattle.fp_rows.specs.Refs.{entries_of}
use Rattle.fp_rows.specs.Values.{RowValue}
use Rattle.p_groups.specs.PGroups.{PGroup}
use Rattle.group_algebra.specs.Coordinates.{row_of}
use Rattle.group_algebra.proofs.Combined.{IsCombined, combined, positive}
use Rattle.group_algebra.proofs.ElementRows.{one, product-row, times-one-is}
use Rattle.group_algebra.proofs.TableLemmas.{elements-at, elements-matrix}
use Rattle.group_algebra.proofs.algebra.Algebra.to_layers.Goals as goal

pub returns-clause-layers : goal.returns-clause-layers
returns-clause-layers c =
    let G : PGroup = c.self.inside.group in
    let H = c.self.invariant.element_shape in
    let p : c.args.out.now.p ≡ G.table.p = rw (← c.self.view_is) at c.requires.prime in
    let C : IsCombined G.table.p (order G.table) (entries_of c.args.a)
    (row c.self.inside.elements.rows) c.combine.new.out.entries =
    combined (entries_of c.args.a) c.self.inside.elements.rows _ (positive G)
    (elements-matrix G c.self.inside.elements.rows H.rows c.self.invariant.elements_are) H.rows
    (rw (H.prime, H.width) at (ap (λ (r : RowValue). r.entries) c.combine.ensures)) in
    rw (← c.self.view_is) (λ v A.
    product-row G (entries_of c.args.a) v (one G)
    (row c.self.inside.elements.rows) c.combine.new.out.entries A
    (elements-at G c.self.inside.elements.rows H.rows c.self.invariant.elements_are) C
    ∙ ap (row_of G 1) (times-one-is G v))

use Rattle.std.proofs.Common.{List, ℕ, ap}
use Rattle.group_table.specs.Tables.{order}
use Rattle.linear_algebra.specs.Rows.{row, IsRow}
use Rattle.fp_rows.specs.Refs.{entries_of}
use Rattle.fp_rows.specs.Values.{RowValue}
use Rattle.p_groups.specs.PGroups.{PGroup}
use Rattle.group_algebra.proofs.Combined.{IsCombined, combined, positive}
use Rattle.group_algebra.proofs.ElementRows.{coefficients-of-row}
use Rattle.group_algebra.proofs.ImageLemmas.{row-of-ref}
use Rattle.group_algebra.proofs.TableLemmas.{members-matrix}
use Rattle.group_algebra.proofs.algebra.Algebra.from_layers.Goals as goal

pub returns-clause-coefficients : goal.returns-clause-coefficients
returns-clause-coefficients c =
    let G : PGroup = c.self.inside.group in
    let H = c.self.invariant.member_shape in
    let x : List ℕ = entries_of c.args.v in
    let C : IsCombined G.table.p (order G.table) x
    (row c.self.inside.members.rows) c.combine.new.out.entries =
    combined x c.self.inside.members.rows _ (positive G)
    (members-matrix G c.self.inside.members.rows H.rows c.self.invariant.members_are) H.rows
    (rw (H.prime, H.width) at (ap (λ (r : RowValue). r.entries) c.combine.ensures)) in
    let r : IsRow G.table.p (order G.table) x =
    row-of-ref x (rw (← c.self.view_is) at c.requires.length)
    (rw (← c.self.view_is) at c.requires.modulus) c.args.v.below in
    rw (← c.self.view_is) (coefficients-of-row G x c.combine.new.out.entries
    (row c.self.inside.members.rows) r
    c.self.invariant.members_are C)

use Rattle.std.proofs.Common.{◌≡◌, ◌<◌, ℕ, List, ◌*◌, length, ap, sym, ◌∙◌}
use mathlib.Core.Path.{subst}
use Rattle.group_table.specs.Tables.{order}
use Rattle.linear_algebra.specs.Kernels.{unit_row}
use Rattle.linear_algebra.specs.Rows.{row}
use Rattle.radical_layers.specs.Placing.{size_of, place_of}
use Rattle.p_groups.specs.PGroups.{PGroup}
use Rattle.group_algebra.specs.Coordinates.{sizes, member, product_with, row_of, table_of}
use Rattle.group_algebra.specs.RowMaps.{map_row}
use Rattle.group_algebra.proofs.LayerRows.{size-is}
use Rattle.group_algebra.proofs.UnitImages.{unit-value}
use Rattle.group_algebra.proofs.algebra.Algebra.apply_to_unit.Goals as goal

pub location-location-requires-clause-inside : goal.location-location-requires-clause-inside
location-location-requires-clause-inside c =
    let size : size_of c.self.inside.places ≡ order c.self.inside.group.table =
    ap size_of c.self.invariant.sizes_are ∙ size-is c.self.inside.group in
    rw (size, c.rows.ensures.count) (rw (← c.self.view_is) at c.requires.place)

pub location-location-requires-clause-small : goal.location-location-requires-clause-small
location-location-requires-clause-small c =
    let size : size_of c.self.inside.places ≡ order c.self.inside.group.table =
    ap size_of c.self.invariant.sizes_are ∙ size-is c.self.inside.group in
    rw (size, c.rows.ensures.count) (rw (← c.self.view_is) at c.requires.fits)

pub location-location-requires-clause-few : goal.location-location-requires-clause-few
location-location-requires-clause-few c =
    let size : size_of c.self.inside.places ≡ order c.self.inside.group.table =
    ap size_of c.self.invariant.sizes_are ∙ size-is c.self.inside.group in
    rw size c.self.invariant.small

pub multiply_by_member-requires-clause-member : goal.multiply_by_member-requires-clause-member
multiply_by_member-requires-clause-member c =
    let size : size_of c.self.inside.places ≡ order c.self.inside.group.table =
    ap size_of c.self.invariant.sizes_are ∙ size-is c.self.inside.group in
    rw (← c.self.view_is) (subst (λ m. c.location-location.result.member < m) size
    c.location-location.ensures.member)

pub multiply_by_member-requires-clause-length : goal.multiply_by_member-requires-clause-length
multiply_by_member-requires-clause-length c = ap length c.row.ensures.entries
    ∙ c.row.ensures.is_row.length_is ∙ c.requires.rows_width

pub returns-clause-value : goal.returns-clause-value
returns-clause-value c =
    let G : PGroup = c.self.inside.group in
    let b : ℕ = c.args.rank in
    let rows : List (List ℕ) = c.args.rows.now.rows in
    let i : ℕ = c.location-location.result.block in
    let k : ℕ = c.location-location.result.member in
    let size : size_of c.self.inside.places ≡ order G.table = ap size_of c.self.invariant.sizes_are
    ∙ size-is G in
    let l : k < order G.table = subst (λ m. k < m) size c.location-location.ensures.member in
    let o : i < length rows = rw c.rows.ensures.count at c.location-location.ensures.block in
    let e : place_of (sizes G) (length rows) i k ≡ c.args.j =
    subst (λ ss. place_of ss (length rows) i k ≡ c.args.j) c.self.invariant.sizes_are
    (rw c.rows.ensures.count at c.location-location.ensures.place) in
    let j : c.args.j < order G.table * length rows = rw (← c.self.view_is) at c.requires.place in
    let product : c.multiply_by_member.new.out.entries
    ≡ row_of G b (product_with G b (member G k) (table_of G b (row rows i))) =
    subst (λ (X : PGroup). c.multiply_by_member.new.out.entries
    ≡ row_of X b (product_with X b (member X k) (table_of X b (row rows i)))) (sym c.self.view_is)
    (subst (λ (x : List ℕ). c.multiply_by_member.new.out.entries
    ≡ row_of c.args.self.now b (product_with c.args.self.now b (member c.args.self.now k)
    (table_of c.args.self.now b x))) c.row.ensures.entries c.multiply_by_member.ensures.product) in
    subst (λ (X : PGroup). c.multiply_by_member.new.out.entries
    ≡ map_row X b rows (unit_row (order X.table * length rows) c.args.j)) c.self.view_is
    (product ∙ sym (unit-value G b rows c.args.j i k j o l e))

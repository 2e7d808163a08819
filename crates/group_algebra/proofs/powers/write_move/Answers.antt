use Rattle.std.proofs.Common.{◌≡◌, ◌-◌, length, ap, sym, ◌∙◌}
use Rattle.group_table.specs.Tables.{order}
use Rattle.linear_algebra.specs.Rows.{add_multiple}
use Rattle.linear_algebra.proofs.RowLemmas.{length-add_multiple}
use Rattle.fp_rows.specs.Refs.{entries_of}
use Rattle.fp_rows.specs.Values.{RowValue}
use Rattle.group_algebra.specs.Coefficients.{AreSumCoordinates}
use Rattle.group_algebra.proofs.Members.{move-is}
use Rattle.group_algebra.proofs.powers.write_move.Goals as goal

pub write_sum_coordinates-requires-clause-same_length : goal.write_sum_coordinates-requires-clause-same_length
write_sum_coordinates-requires-clause-same_length c = c.requires.same_length.1
    ∙ sym (ap length c.view.ensures.entries ∙ rw c.add.ensures (length-add_multiple _ _ _ _)
    ∙ (rw c.as_group.ensures at c.write_translate.ensures.translate).is_row.length_is)

pub returns-clause-lengths : goal.returns-clause-lengths
returns-clause-lengths c =
    let e : length c.add.new.self.entries ≡ order c.args.group.now.table =
    rw c.add.ensures (length-add_multiple _ _ _ _)
    ∙ (rw c.as_group.ensures at c.write_translate.ensures.translate).is_row.length_is in (
      e,
      c.write_sum_coordinates.ensures.coordinates.coordinates.length_is ∙ ap length c.view.ensures.entries
          ∙ e,
    )

pub returns-clause-difference : goal.returns-clause-difference
returns-clause-difference c l v C =
    let p : c.write_translate.new.out.p ≡ c.args.group.now.table.p = c.write_translate.ensures.prime
    ∙ c.requires.same_prime.0 in
    let sum : c.add.new.self.p ≡ c.args.group.now.table.p = ap (λ (r : RowValue). r.p) c.add.ensures ∙ p in
    let r : c.value.result ≡ c.args.group.now.table.p = c.value.ensures ∙ c.prime-p.ensures in
    let e : c.add.new.self.entries ≡ add_multiple c.args.group.now.table.p
    (c.args.group.now.table.p - 1) c.write_translate.new.out.entries (entries_of c.args.a) =
    rw (c.add.ensures, p, r) in
    let len : length (entries_of c.view.result) ≡ order c.args.group.now.table =
    ap length (c.view.ensures.entries ∙ e) ∙ length-add_multiple _ _ _ _
    ∙ (rw c.as_group.ensures at c.write_translate.ensures.translate).is_row.length_is in
    let S : AreSumCoordinates c.args.group.now.table.p (order c.args.group.now.table)
    (entries_of c.view.result) c.write_sum_coordinates.new.out.entries =
    rw (c.view.ensures.modulus, sum, len) at c.write_sum_coordinates.ensures.coordinates in
    move-is c.args.group.now (c.args.g, l) (entries_of c.args.a) c.write_translate.new.out.entries
    (entries_of c.view.result) c.write_sum_coordinates.new.out.entries v
    (rw c.as_group.ensures at c.write_translate.ensures.translate) (c.view.ensures.entries ∙ e) S C

use Rattle.std.proofs.Common.{◌≡◌, ℕ, ◌<◌, length, List, map, arith, ap, sym, ◌∙◌}
use Rattle.std.specs.Prelude.{insert}
use Rattle.linear_algebra.specs.Rows.{pivot}
use Rattle.fp_rows.specs.Lists.{lists}
use Rattle.linear_algebra.specs.Elimination.{AreCleared}
use Rattle.linear_algebra.specs.Modular.{IsFieldModulo}
use Rattle.linear_algebra.proofs.PivotLemmas.{pivot-le-length}
use Rattle.linear_algebra.proofs.Prepared.{prepared_outside, prepared_inside}
use Rattle.fp_rows.proofs.ListLemmas.{lists-insert, over-insert}
use Rattle.linear_algebra.proofs.AddedRow.{added_nothing, added_row, added_pivots}
use Rattle.fp_rows.proofs.elimination.insert_row.Goals as goal

pub returns-in_ok-insert-2-clause-rows_are : goal.returns-in_ok-insert-2-clause-rows_are
returns-in_ok-insert-2-clause-rows_are c =
    let pr : c.prepare_vec-t.new.v.p ≡ c.args.v.p = c.prepare_vec-t.ensures.prime in
    let one : 1 < c.args.v.p = c.prepare_vec-t.ensures.field.above_one in
    let s : List ℕ = c.prepare_vec-t.new.v.entries in
    let e : lists c.insert-then-t-len.new.self.items ≡ insert
    (lists c.clear_vec-at.new.rows.items) c.clear_vec-at.result s =
    ap lists c.in_ok-insert-2.ensures.items
    ∙ lists-insert c.clear_vec-at.new.rows.items c.clear_vec-at.result c.prepare_vec-t.new.v in
    let inside : c.prepare_vec-t.result < length c.args.v.entries =
    omega (
      arith,
      c.len.ensures.count,
      c.prepare_vec-t.ensures.prepared.is_row.length_is,
      c.if-t-len.true,
    ) in
    let cl : AreCleared c.args.v.p (length c.args.v.entries) c.prepare_vec-t.result s
    (lists c.args.rows.now.items) (lists c.clear_vec-at.new.rows.items) =
    rw (← c.prepare_vec-t.ensures.prepared.is_row.length_is, ← pr) c.clear_vec-at.ensures.cleared in
    rw e (added_row c.args.v.entries s c.prepare_vec-t.result c.clear_vec-at.result one c.requires.matrix
    c.requires.echelon
    c.prepare_vec-t.ensures.prepared c.prepare_vec-t.ensures.place inside cl c.clear_vec-at.ensures.place)

pub returns-in_ok-insert-2-clause-over : goal.returns-in_ok-insert-2-clause-over
returns-in_ok-insert-2-clause-over c =
    rw c.in_ok-insert-2.ensures.items (over-insert c.args.v.p c.clear_vec-at.new.rows.items
    c.clear_vec-at.result c.prepare_vec-t.new.v
    (rw c.prepare_vec-t.ensures.prime at c.clear_vec-at.ensures.over) c.prepare_vec-t.ensures.prime)

pub returns-in_ok-insert-2-clause-pivots_are : goal.returns-in_ok-insert-2-clause-pivots_are
returns-in_ok-insert-2-clause-pivots_are c =
    let pr : c.prepare_vec-t.new.v.p ≡ c.args.v.p = c.prepare_vec-t.ensures.prime in
    let one : 1 < c.args.v.p = c.prepare_vec-t.ensures.field.above_one in
    let s : List ℕ = c.prepare_vec-t.new.v.entries in
    let e : lists c.insert-then-t-len.new.self.items ≡ insert
    (lists c.clear_vec-at.new.rows.items) c.clear_vec-at.result s =
    ap lists c.in_ok-insert-2.ensures.items
    ∙ lists-insert c.clear_vec-at.new.rows.items c.clear_vec-at.result c.prepare_vec-t.new.v in
    let inside : c.prepare_vec-t.result < length c.args.v.entries =
    omega (
      arith,
      c.len.ensures.count,
      c.prepare_vec-t.ensures.prepared.is_row.length_is,
      c.if-t-len.true,
    ) in
    let cl : AreCleared c.args.v.p (length c.args.v.entries) c.prepare_vec-t.result s
    (lists c.args.rows.now.items) (lists c.clear_vec-at.new.rows.items) =
    rw (← c.prepare_vec-t.ensures.prepared.is_row.length_is, ← pr) c.clear_vec-at.ensures.cleared in
    c.in_ok-insert.ensures.items ∙ added_pivots c.args.v.entries s c.prepare_vec-t.result
    c.clear_vec-at.result one c.requires.matrix c.requires.echelon
    c.prepare_vec-t.ensures.prepared c.prepare_vec-t.ensures.place inside cl c.clear_vec-at.ensures.place
    c.args.pivots.now.items c.requires.pivots_are ∙ ap (map pivot) (sym e)

pub returns-else-t-len-clause-rows_are : goal.returns-else-t-len-clause-rows_are
returns-else-t-len-clause-rows_are c = added_nothing c.args.v.entries c.prepare_vec-t.new.v.entries
    c.requires.matrix c.requires.echelon c.prepare_vec-t.ensures.prepared
    (omega (
      arith,
      c.prepare_vec-t.ensures.place,
      c.if-t-len.false,
      c.len.ensures.count,
      c.prepare_vec-t.ensures.prepared.is_row.length_is,
      pivot-le-length c.prepare_vec-t.new.v.entries,
    ))

pub returns-in_ok-insert-2-clause-outside : goal.returns-in_ok-insert-2-clause-outside
returns-in_ok-insert-2-clause-outside c =
    let inside : pivot c.prepare_vec-t.new.v.entries < length c.args.v.entries =
    omega (
      arith,
      c.prepare_vec-t.ensures.place,
      c.len.ensures.count,
      c.prepare_vec-t.ensures.prepared.is_row.length_is,
      c.if-t-len.true,
    ) in
    let field : IsFieldModulo c.args.v.p = c.prepare_vec-t.ensures.field in
    λ t s. prepared_outside c.args.v.entries c.prepare_vec-t.new.v.entries field c.requires.matrix
    c.requires.echelon c.prepare_vec-t.ensures.prepared inside s

pub returns-else-t-len-clause-inside : goal.returns-else-t-len-clause-inside
returns-else-t-len-clause-inside c = let whole : pivot c.prepare_vec-t.new.v.entries
    ≡ length c.args.v.entries =
    omega (
      arith,
      c.prepare_vec-t.ensures.place,
      c.if-t-len.false,
      c.len.ensures.count,
      c.prepare_vec-t.ensures.prepared.is_row.length_is,
      pivot-le-length c.prepare_vec-t.new.v.entries,
    ) in
    λ e. prepared_inside c.args.v.entries c.prepare_vec-t.new.v.entries c.prepare_vec-t.ensures.prepared whole

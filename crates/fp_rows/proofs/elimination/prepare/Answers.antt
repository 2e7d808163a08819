use Rattle.std.proofs.Common.{◌≡◌, ◌*◌, ◌%◌, ◌<◌, map, arith, ap, sym, ◌∙◌}
use Rattle.linear_algebra.specs.Rows.{entry}
use Rattle.fp_rows.specs.Lists.{lists}
use Rattle.fp_rows.specs.Values.{RowValue}
use Rattle.linear_algebra.proofs.PivotLemmas.{not_zero_at_pivot, pivot-le-length}
use Rattle.linear_algebra.proofs.AddedRow.{prepared_zero, prepared_scaled, scaled_pivot}
use Rattle.fp_rows.proofs.elimination.prepare.Goals as goal

pub inverse-c-requires-clause-not_zero : goal.inverse-c-requires-clause-not_zero
inverse-c-requires-clause-not_zero c = λ z. not_zero_at_pivot c.reduce_by.new.v.entries
    (omega (arith, c.first-t.ensures, c.len.ensures.count, c.if-t-len.true))
    (ap (entry c.reduce_by.new.v.entries) (sym c.first-t.ensures) ∙ sym c.get.ensures.value ∙ z)

pub returns-then-t-len-clause-place : goal.returns-then-t-len-clause-place
returns-then-t-len-clause-place c =
    let one : 1 < c.args.v.now.p = c.reduce_by.ensures.field.above_one in
    let inv : c.inverse-c.result * entry c.reduce_by.new.v.entries c.first-t.result % c.args.v.now.p ≡ 1 =
    rw (c.prime.ensures.value, c.reduce_by.ensures.prime, c.get.ensures.value) at c.inverse-c.ensures.inverse in
    let e : c.scale.new.self.entries ≡ map
    (λ x. c.inverse-c.result * x % c.args.v.now.p) c.reduce_by.new.v.entries =
    ap (λ (r : RowValue). r.entries) c.scale.ensures
    ∙ ap (λ q. map (λ x. c.inverse-c.result * x % q) c.reduce_by.new.v.entries) c.reduce_by.ensures.prime
    in
    sym (scaled_pivot c.inverse-c.result c.first-t.result
    (lists c.args.rows.now) c.args.v.now.entries c.reduce_by.new.v.entries c.scale.new.self.entries
    one c.reduce_by.ensures.row_is c.reduce_by.ensures.reduced c.first-t.ensures inv e)

pub returns-then-t-len-clause-prepared : goal.returns-then-t-len-clause-prepared
returns-then-t-len-clause-prepared c =
    let one : 1 < c.args.v.now.p = c.reduce_by.ensures.field.above_one in
    let inv : c.inverse-c.result * entry c.reduce_by.new.v.entries c.first-t.result % c.args.v.now.p ≡ 1 =
    rw (c.prime.ensures.value, c.reduce_by.ensures.prime, c.get.ensures.value) at c.inverse-c.ensures.inverse in
    let e : c.scale.new.self.entries ≡ map
    (λ x. c.inverse-c.result * x % c.args.v.now.p) c.reduce_by.new.v.entries =
    ap (λ (r : RowValue). r.entries) c.scale.ensures
    ∙ ap (λ q. map (λ x. c.inverse-c.result * x % q) c.reduce_by.new.v.entries) c.reduce_by.ensures.prime
    in
    prepared_scaled c.inverse-c.result c.first-t.result
    (lists c.args.rows.now) c.args.v.now.entries c.reduce_by.new.v.entries c.scale.new.self.entries
    one c.reduce_by.ensures.row_is c.reduce_by.ensures.reduced c.first-t.ensures inv e

pub returns-else-t-len-clause-prepared : goal.returns-else-t-len-clause-prepared
returns-else-t-len-clause-prepared c = prepared_zero
    (lists c.args.rows.now) c.args.v.now.entries c.reduce_by.new.v.entries
    (c.reduce_by.ensures.field.above_one) c.reduce_by.ensures.row_is
    c.reduce_by.ensures.reduced
    (omega (
      arith,
      c.first-t.ensures,
      c.if-t-len.false,
      c.len.ensures.count,
      pivot-le-length c.reduce_by.new.v.entries,
      c.reduce_by.ensures.row_is.length_is,
    ))

use Rattle.std.proofs.Common.{◌≡◌, ◌*◌, ◌%◌, ◌<◌, length, map, arith, ap, sym, ◌∙◌}
use Rattle.linear_algebra.specs.Rows.{entry}
use Rattle.fp_rows.specs.Lists.{lists}
use Rattle.fp_rows.specs.Values.{RowValue}
use Rattle.linear_algebra.proofs.PivotLemmas.{not_zero_at_pivot, pivot-le-length}
use Rattle.linear_algebra.proofs.AddedRow.{prepared_zero, prepared_scaled, scaled_pivot}
use Rattle.fp_rows.proofs.SolvingLemmas.{combination_scaled, scaled_row, zero_scaled}
use Rattle.fp_rows.proofs.kernels.prepare_pair.Goals as goal

pub inverse-c-requires-clause-not_zero : goal.inverse-c-requires-clause-not_zero
inverse-c-requires-clause-not_zero c = λ z. not_zero_at_pivot c.reduce_pair.new.v.entries
    (omega (arith, c.first-t.ensures, c.len.ensures.count, c.if-t-len.true))
    (ap (entry c.reduce_pair.new.v.entries) (sym c.first-t.ensures) ∙ sym c.get.ensures.value ∙ z)

pub returns-then-t-len : goal.returns-then-t-len
returns-then-t-len c =
    let one : 1 < c.args.v.now.p = c.reduce_pair.ensures.field.above_one in
    let inv : c.inverse-c.result * entry c.reduce_pair.new.v.entries c.first-t.result % c.args.v.now.p ≡ 1 =
    rw (
      c.prime.ensures.value,
      c.reduce_pair.ensures.prime,
      c.get.ensures.value,
    ) at c.inverse-c.ensures.inverse in
    let e : c.scale.new.self.entries ≡ map
    (λ x. c.inverse-c.result * x % c.args.v.now.p) c.reduce_pair.new.v.entries =
    ap (λ (r : RowValue). r.entries) c.scale.ensures
    ∙ ap (λ q. map (λ x. c.inverse-c.result * x % q) c.reduce_pair.new.v.entries)
    c.reduce_pair.ensures.prime in
    let up : c.reduce_pair.new.u.p ≡ c.args.v.now.p = c.reduce_pair.ensures.made_prime
    ∙ c.requires.same_prime in
    let eu : c.scale-then-t-len.new.self.entries ≡ map
    (λ x. c.inverse-c.result * x % c.args.v.now.p) c.reduce_pair.new.u.entries =
    ap (λ (r : RowValue). r.entries) c.scale-then-t-len.ensures
    ∙ ap (λ q. map (λ x. c.inverse-c.result * x % q) c.reduce_pair.new.u.entries) up in
    let inside : c.first-t.result < length c.args.v.now.entries =
    omega (arith, c.if-t-len.true, c.len.ensures.count, c.reduce_pair.ensures.row_is.length_is) in
    record {
      prime = ap (λ (r : RowValue). r.p) c.scale.ensures ∙ c.reduce_pair.ensures.prime;
      made_prime = ap (λ (r : RowValue). r.p) c.scale-then-t-len.ensures ∙ c.reduce_pair.ensures.made_prime;
      place = sym (scaled_pivot c.inverse-c.result c.first-t.result
          (lists c.args.rows.now) c.args.v.now.entries c.reduce_pair.new.v.entries c.scale.new.self.entries
          one c.reduce_pair.ensures.row_is c.reduce_pair.ensures.reduced c.first-t.ensures inv e);
      prepared = prepared_scaled c.inverse-c.result c.first-t.result
          (lists c.args.rows.now) c.args.v.now.entries c.reduce_pair.new.v.entries c.scale.new.self.entries
          one c.reduce_pair.ensures.row_is c.reduce_pair.ensures.reduced c.first-t.ensures inv e;
      made_is = rw eu (scaled_row c.inverse-c.result c.reduce_pair.new.u.entries
          (omega arith) c.reduce_pair.ensures.made_is);
      maps = λ gens each start. rw (e, eu)
          (combination_scaled c.inverse-c.result gens c.reduce_pair.new.u.entries c.reduce_pair.new.v.entries
          (c.reduce_pair.ensures.maps gens each start));
      zero = λ s z zeros. rw eu (zero_scaled c.args.v.now.p c.inverse-c.result c.reduce_pair.new.u.entries s
          (c.reduce_pair.ensures.kept s zeros ∙ z));
      kept = λ whole. absurd (omega (arith, whole, inside));
    }

pub returns-else-t-len : goal.returns-else-t-len
returns-else-t-len c =
    let one : 1 < c.args.v.now.p = c.reduce_pair.ensures.field.above_one in
    record {
      prime = c.reduce_pair.ensures.prime;
      made_prime = c.reduce_pair.ensures.made_prime;
      place = c.first-t.ensures;
      prepared = prepared_zero (lists c.args.rows.now) c.args.v.now.entries c.reduce_pair.new.v.entries one
          c.reduce_pair.ensures.row_is c.reduce_pair.ensures.reduced
          (omega (
            arith,
            c.first-t.ensures,
            c.if-t-len.false,
            c.len.ensures.count,
            pivot-le-length c.reduce_pair.new.v.entries,
            c.reduce_pair.ensures.row_is.length_is,
          ));
      made_is = c.reduce_pair.ensures.made_is;
      maps = c.reduce_pair.ensures.maps;
      zero = λ s z zeros. c.reduce_pair.ensures.kept s zeros ∙ z;
      kept = λ whole s zeros. c.reduce_pair.ensures.kept s zeros;
    }

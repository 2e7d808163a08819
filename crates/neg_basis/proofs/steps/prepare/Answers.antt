use Rattle.std.proofs.Common.{◌≡◌, ◌<◌, ◌*◌, ◌%◌, map, arith, ap, sym, ◌∙◌}
use Rattle.linear_algebra.specs.Rows.{entry}
use Rattle.fp_rows.specs.Values.{RowValue}
use Rattle.fp_rows.proofs.Primes.{prime_field}
use Rattle.linear_algebra.proofs.PivotLemmas.{not_zero_at_pivot}
use Rattle.fp_rows.proofs.Primes.{prime_above_one}
use Rattle.linear_algebra.proofs.AddedRow.{scaled_pivot}
use Rattle.neg_basis.specs.Turns.{IsMonicRest}
use Rattle.neg_basis.proofs.Prepared.{prepared_zero, prepared_scaled}
use Rattle.neg_basis.proofs.steps.prepare.Goals as goal

pub inverse-c-requires-clause-not_zero : goal.inverse-c-requires-clause-not_zero
inverse-c-requires-clause-not_zero c = λ z. not_zero_at_pivot c.reduce_by.new.v.entries
    (omega (arith, c.head_of-head.ensures, c.len.ensures, c.if-head-len.true))
    (ap (entry c.reduce_by.new.v.entries) (sym c.head_of-head.ensures) ∙ sym c.get.ensures.value ∙ z)

pub returns-then-head-len-clause-field : goal.returns-then-head-len-clause-field
returns-then-head-len-clause-field c = rw (← c.prime-p.ensures) (prime_field c.prime-p.result)

pub returns-else-head-len-clause-field : goal.returns-else-head-len-clause-field
returns-else-head-len-clause-field c = rw (← c.prime-p.ensures) (prime_field c.prime-p.result)

above_one : (c : goal.After-scale) → 1 < c.args.vectors.now.p
above_one c = let o = prime_above_one c.prime-p.result in omega (arith, c.prime-p.ensures)

scaled : (c : goal.After-scale) → c.scale.new.v.entries
    ≡ map (λ x. c.inverse-c.result * x % c.args.vectors.now.p) c.reduce_by.new.v.entries
scaled c = ap (λ (r : RowValue). r.entries) c.scale.ensures
    ∙ ap (λ m. map (λ x. c.inverse-c.result * x % m) c.reduce_by.new.v.entries) c.prime-p.ensures

one_at_head : (c : goal.After-scale)
    → c.inverse-c.result * entry c.reduce_by.new.v.entries c.head_of-head.result % c.args.vectors.now.p ≡ 1
one_at_head c = rw (← c.get.ensures.value, ← c.prime-p.ensures) c.inverse-c.ensures.inverse

prepared : (c : goal.After-scale)
    → IsMonicRest c.args.vectors.now.p c.args.vectors.now.width c.args.vectors.now.rows
    (entry c.args.v.now.entries) c.scale.new.v.entries
prepared c = prepared_scaled c.inverse-c.result c.head_of-head.result c.args.vectors.now.rows
    c.args.v.now.entries c.reduce_by.new.v.entries c.scale.new.v.entries (above_one c)
    (omega (arith, c.inverse-c.ensures.below, c.prime-p.ensures))
    c.reduce_by.ensures.row c.reduce_by.ensures.reduced c.head_of-head.ensures (one_at_head c) (scaled c)

pub returns-then-head-len-clause-row : goal.returns-then-head-len-clause-row
returns-then-head-len-clause-row c = (prepared c).is_row

pub returns-then-head-len-clause-place : goal.returns-then-head-len-clause-place
returns-then-head-len-clause-place c =
    sym (scaled_pivot c.inverse-c.result c.head_of-head.result c.args.vectors.now.rows c.args.v.now.entries
    c.reduce_by.new.v.entries c.scale.new.v.entries
    (above_one c) c.reduce_by.ensures.row c.reduce_by.ensures.reduced c.head_of-head.ensures (one_at_head c)
    (scaled c))

pub returns-then-head-len-clause-prepared : goal.returns-then-head-len-clause-prepared
returns-then-head-len-clause-prepared c = prepared c

pub returns-else-head-len-clause-prepared : goal.returns-else-head-len-clause-prepared
returns-else-head-len-clause-prepared c =
    prepared_zero c.args.vectors.now.rows c.args.v.now.entries c.reduce_by.new.v.entries (let o =
    prime_above_one c.prime-p.result in omega (arith, c.prime-p.ensures))
    c.reduce_by.ensures.row c.reduce_by.ensures.reduced
    (omega (
      arith,
      c.head_of-head.ensures,
      c.if-head-len.false,
      c.len.ensures,
      c.reduce_by.ensures.row.length_is,
    ))

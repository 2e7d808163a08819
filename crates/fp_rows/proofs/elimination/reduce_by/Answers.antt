use Rattle.std.proofs.Common.{◌≡◌, ◌-◌, ◌<◌, length, get_or, arith, ap, sym, ◌∙◌, refl}
use Rattle.linear_algebra.specs.Rows.{entry, row, pivot}
use Rattle.fp_rows.specs.Lists.{lists}
use Rattle.fp_rows.proofs.ListLemmas.{row_lists, length-lists, kept_pivot}
use Rattle.fp_rows.proofs.Primes.{prime_above_one, prime_field}
use Rattle.linear_algebra.proofs.Reducing.{reduced_start, reduced_skip, reduced_step}
use Rattle.fp_rows.proofs.elimination.reduce_by.Goals as goal
use Rattle.fp_rows.proofs.elimination.reduce_by.Goals.{then-c-ne0, else-c-ne0}

pub loop-i-init : goal.loop-i-init
loop-i-init c = record {
  prime = refl;
  reduced = reduced_start (lists c.args.rows.now) c.args.v.now.entries
      (rw c.prime.ensures.value at (prime_above_one c.prime.result)) c.prime.ensures.row;
}

pub get-c-requires : goal.get-c-requires
get-c-requires c = let l : c.loop-i.i < length (lists c.args.rows.now) = rw length-lists (omega arith) in
    omega (
      arith,
      kept_pivot (lists c.args.rows.now) c.args.pivots.now c.loop-i.i c.requires.pivots_are l,
      c.requires.echelon.not_zero c.loop-i.i l,
      (c.requires.matrix c.loop-i.i l).length_is,
      c.loop-i.invariant.reduced.is_row.length_is,
    )

pub add_row-requires-clause-row : goal.add_row-requires-clause-row
add_row-requires-clause-row c = let l : c.loop-i.i < length (lists c.args.rows.now) =
    rw length-lists (omega arith) in
    let s : row (lists c.args.rows.now) c.loop-i.i ≡ c.index-rows-i.result.entries =
    row_lists c.args.rows.now c.loop-i.i c.index-rows-i.result (omega arith) c.index-rows-i.is in
    rw (
      c.loop-i.invariant.prime,
      c.loop-i.invariant.reduced.is_row.length_is,
      ← s,
    ) (c.requires.matrix c.loop-i.i l)

pub loop-i-preserved : goal.loop-i-preserved
loop-i-preserved c = let l : c.loop-i.i < length (lists c.args.rows.now) = rw length-lists (omega arith) in
    let q : get_or c.args.pivots.now c.loop-i.i 0 ≡ pivot (row (lists c.args.rows.now) c.loop-i.i) =
    kept_pivot (lists c.args.rows.now) c.args.pivots.now c.loop-i.i c.requires.pivots_are l in
    let s : row (lists c.args.rows.now) c.loop-i.i ≡ c.index-rows-i.result.entries =
    row_lists c.args.rows.now c.loop-i.i c.index-rows-i.result (omega arith) c.index-rows-i.is in
    elim c.if-c-ne0.branch [
      | then-c-ne0 w ↦ record {
        prime = rw (w.v-is, w.add_row.ensures) c.loop-i.invariant.prime;
        reduced = rw (w.v-is, w.add_row.ensures, c.loop-i.invariant.prime, ← s)
            (reduced_step (rw c.prime.ensures.value at
            (prime_above_one c.prime.result)) c.requires.matrix c.requires.echelon l
            c.loop-i.invariant.reduced
            (c.value-m.result - c.get-c.result)
            (rw (c.value-m.ensures, c.prime.ensures.value, c.get-c.ensures.value, q) refl));
      }
      | else-c-ne0 w ↦ record {
        prime = rw w.v-is c.loop-i.invariant.prime;
        reduced = rw w.v-is (reduced_skip c.loop-i.invariant.reduced (ap (entry c.loop-i.v.entries) (sym q)
            ∙ sym c.get-c.ensures.value ∙ w.if-c-ne0.false));
      }
    ]

pub returns-clause-field : goal.returns-clause-field
returns-clause-field c = rw c.prime.ensures.value at (prime_field c.prime.result)

use Rattle.std.proofs.Common.{◌≡◌, ℕ, ◌-◌, ◌<◌, length, get_or, arith, ap, sym, ◌∙◌, refl}
use Rattle.linear_algebra.specs.Rows.{entry, row, pivot}
use Rattle.fp_rows.specs.Lists.{lists}
use Rattle.fp_rows.proofs.ListLemmas.{row_lists, length-lists, kept_pivot}
use Rattle.fp_rows.proofs.Primes.{prime_above_one, prime_field}
use Rattle.linear_algebra.proofs.Reducing.{reduced_start, reduced_skip, reduced_step, add_multiple_is_row}
use Rattle.fp_rows.proofs.SolvingLemmas.{combination_added, zero_added}
use Rattle.fp_rows.proofs.kernels.reduce_pair.Goals as goal
use Rattle.fp_rows.proofs.kernels.reduce_pair.Goals.{then-c-ne0, else-c-ne0}

pub loop-i-init : goal.loop-i-init
loop-i-init c = record {
  prime = refl;
  made_prime = refl;
  reduced = reduced_start (lists c.args.rows.now) c.args.v.now.entries
      (rw c.prime.ensures.value at (prime_above_one c.prime.result)) c.prime.ensures.row;
  made_is = rw c.requires.same_prime at c.len-made.ensures.row;
  maps = λ gens each start. start;
  kept = λ s z. refl;
}

pub get-c-requires : goal.get-c-requires
get-c-requires c = let l : c.loop-i.i < length (lists c.args.rows.now) = rw length-lists (omega arith) in
    omega (
      arith,
      kept_pivot (lists c.args.rows.now) c.args.pivots.now c.loop-i.i c.requires.pivots_are l,
      c.requires.echelon.not_zero c.loop-i.i l,
      (c.requires.matrix c.loop-i.i l).length_is,
      c.loop-i.invariant.reduced.is_row.length_is,
    )

pub add_row-requires-clause-row : goal.add_row-requires-clause-row
add_row-requires-clause-row c = let l : c.loop-i.i < length (lists c.args.rows.now) =
    rw length-lists (omega arith) in
    let s : row (lists c.args.rows.now) c.loop-i.i ≡ c.index-rows-i.result.entries =
    row_lists c.args.rows.now c.loop-i.i c.index-rows-i.result (omega arith) c.index-rows-i.is in
    rw (
      c.loop-i.invariant.prime,
      c.loop-i.invariant.reduced.is_row.length_is,
      ← s,
    ) (c.requires.matrix c.loop-i.i l)

pub add_row-requires-then-c-ne0-clause-row : goal.add_row-requires-then-c-ne0-clause-row
add_row-requires-then-c-ne0-clause-row c = let l : c.loop-i.i < length (lists c.args.rows.now) =
    rw length-lists (omega arith) in
    let k : c.loop-i.i < length (lists c.args.made.now) = omega (arith, l, c.requires.same_count) in
    let m : c.loop-i.i < length c.args.made.now = omega (arith, k, length-lists c.args.made.now) in
    let s : row (lists c.args.made.now) c.loop-i.i ≡ c.index-made-i.result.entries =
    row_lists c.args.made.now c.loop-i.i c.index-made-i.result m c.index-made-i.is in
    rw (
      c.loop-i.invariant.made_prime,
      c.requires.same_prime,
      c.loop-i.invariant.made_is.length_is,
      ← s,
    ) (c.requires.made_rows c.loop-i.i k)

pub loop-i-preserved : goal.loop-i-preserved
loop-i-preserved c = let l : c.loop-i.i < length (lists c.args.rows.now) = rw length-lists (omega arith) in
    let k : c.loop-i.i < length (lists c.args.made.now) = omega (arith, l, c.requires.same_count) in
    let m : c.loop-i.i < length c.args.made.now = omega (arith, k, length-lists c.args.made.now) in
    let q : get_or c.args.pivots.now c.loop-i.i 0 ≡ pivot (row (lists c.args.rows.now) c.loop-i.i) =
    kept_pivot (lists c.args.rows.now) c.args.pivots.now c.loop-i.i c.requires.pivots_are l in
    let s : row (lists c.args.rows.now) c.loop-i.i ≡ c.index-rows-i.result.entries =
    row_lists c.args.rows.now c.loop-i.i c.index-rows-i.result (omega arith) c.index-rows-i.is in
    let one : 1 < c.args.v.now.p = rw c.prime.ensures.value at (prime_above_one c.prime.result) in
    let f : ℕ = c.value-m.result - c.get-c.result in
    let up : c.loop-i.u.p ≡ c.args.v.now.p = c.loop-i.invariant.made_prime ∙ c.requires.same_prime in
    elim c.if-c-ne0.branch [
      | then-c-ne0 w ↦
          let z : row (lists c.args.made.now) c.loop-i.i ≡ w.index-made-i.result.entries =
          row_lists c.args.made.now c.loop-i.i w.index-made-i.result m w.index-made-i.is in
          record {
            prime = rw (w.v-is, w.add_row.ensures) c.loop-i.invariant.prime;
            made_prime = rw (w.u-is, w.add_row-then-c-ne0.ensures) c.loop-i.invariant.made_prime;
            reduced = rw (w.v-is, w.add_row.ensures, c.loop-i.invariant.prime, ← s)
                (reduced_step one c.requires.matrix c.requires.echelon l c.loop-i.invariant.reduced f
                (rw (c.value-m.ensures, c.prime.ensures.value, c.get-c.ensures.value, q) refl));
            made_is = rw (w.u-is, w.add_row-then-c-ne0.ensures, up, ← z)
                (add_multiple_is_row f c.loop-i.u.entries (row (lists c.args.made.now) c.loop-i.i)
                (omega arith) c.loop-i.invariant.made_is (c.requires.made_rows c.loop-i.i k));
            maps = λ gens each start. rw (
              w.v-is,
              w.u-is,
              w.add_row.ensures,
              w.add_row-then-c-ne0.ensures,
              c.loop-i.invariant.prime,
              up,
              ← s,
              ← z,
            )
                (combination_added f gens c.loop-i.u.entries
                (row (lists c.args.made.now) c.loop-i.i) c.loop-i.v.entries
                (row (lists c.args.rows.now) c.loop-i.i)
                c.loop-i.invariant.made_is
                (c.requires.made_rows c.loop-i.i k) c.loop-i.invariant.reduced.is_row
                (c.requires.matrix c.loop-i.i l)
                (c.loop-i.invariant.maps gens each start) (each c.loop-i.i l));
            kept = λ x zeros. rw (w.u-is, w.add_row-then-c-ne0.ensures, up, ← z)
                (zero_added c.args.v.now.p f c.loop-i.u.entries (row (lists c.args.made.now) c.loop-i.i) x
                ((c.requires.made_rows c.loop-i.i k).length_is
                ∙ sym c.loop-i.invariant.made_is.length_is) (zeros c.loop-i.i k)
                (λ j b. c.loop-i.invariant.made_is.below j
                (omega (arith, b, c.loop-i.invariant.made_is.length_is)))
                ∙ c.loop-i.invariant.kept x zeros);
          }
      | else-c-ne0 w ↦ record {
        prime = rw w.v-is c.loop-i.invariant.prime;
        made_prime = rw w.u-is c.loop-i.invariant.made_prime;
        reduced = rw w.v-is (reduced_skip c.loop-i.invariant.reduced (ap (entry c.loop-i.v.entries) (sym q)
            ∙ sym c.get-c.ensures.value ∙ w.if-c-ne0.false));
        made_is = rw w.u-is c.loop-i.invariant.made_is;
        maps = rw (w.v-is, w.u-is) c.loop-i.invariant.maps;
        kept = rw w.u-is c.loop-i.invariant.kept;
      }
    ]

pub returns-clause-field : goal.returns-clause-field
returns-clause-field c = rw c.prime.ensures.value at (prime_field c.prime.result)

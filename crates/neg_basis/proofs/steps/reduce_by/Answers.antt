use Rattle.std.proofs.Common.{◌≡◌, ◌-◌, ◌<◌, ◌<◌, length, get_or, arith, ap, sym, ◌∙◌, refl}
use Rattle.std.proofs.lemmas.List.{length-map}
use Rattle.linear_algebra.specs.Rows.{entry, row, pivot}
use Rattle.fp_rows.proofs.Primes.{prime_field}
use Rattle.fp_rows.proofs.ListLemmas.{kept_pivot}
use Rattle.fp_rows.proofs.Primes.{prime_above_one}
use Rattle.linear_algebra.proofs.Reducing.{reduced_start, reduced_skip}
use Rattle.neg_basis.proofs.BasisLemmas.{reduced_step}
use Rattle.neg_basis.proofs.steps.reduce_by.Goals as goal
use Rattle.neg_basis.proofs.steps.reduce_by.Goals.{then-c-ne0, else-c-ne0}

pub loop-i-init : goal.loop-i-init
loop-i-init c = record {
  prime = refl;
  reduced = reduced_start c.args.vectors.now.rows c.args.v.now.entries (let o =
      prime_above_one c.prime.result in omega (arith, c.prime.ensures))
      (rw (c.requires.same_prime, c.requires.same_width) at c.len-len.ensures.row);
}

pub get-c-requires : goal.get-c-requires
get-c-requires c = let l : c.loop-i.i < length c.args.vectors.now.rows =
    omega (arith, ap length c.requires.heads_are, length-map c.args.vectors.now.rows pivot) in
    omega (
      arith,
      kept_pivot c.args.vectors.now.rows c.args.heads.now c.loop-i.i c.requires.heads_are l,
      c.requires.basis.not_zero c.loop-i.i l,
      c.loop-i.invariant.reduced.is_row.length_is,
    )

pub loop-i-preserved : goal.loop-i-preserved
loop-i-preserved c = let l : c.loop-i.i < length c.args.vectors.now.rows =
    omega (arith, ap length c.requires.heads_are, length-map c.args.vectors.now.rows pivot) in
    let q : get_or c.args.heads.now c.loop-i.i 0 ≡ pivot (row c.args.vectors.now.rows c.loop-i.i) =
    kept_pivot c.args.vectors.now.rows c.args.heads.now c.loop-i.i c.requires.heads_are l in
    let one : 1 < c.args.vectors.now.p = let o = prime_above_one c.prime.result in
    omega (arith, c.prime.ensures) in
    elim c.if-c-ne0.branch [
      | then-c-ne0 w ↦ record {
        prime = rw (w.v-is, w.add.ensures) c.loop-i.invariant.prime;
        reduced = rw (
          w.v-is,
          w.add.ensures,
          w.row.ensures.entries,
          c.loop-i.invariant.prime,
          c.requires.same_prime,
        )
            (reduced_step one c.requires.basis l c.loop-i.invariant.reduced
            (c.value-p.result - c.get-c.result)
            (rw (c.value-p.ensures, c.prime.ensures, c.get-c.ensures.value, q) refl));
      }
      | else-c-ne0 w ↦ record {
        prime = rw w.v-is c.loop-i.invariant.prime;
        reduced = rw w.v-is (reduced_skip c.loop-i.invariant.reduced (ap (entry c.loop-i.v.entries) (sym q)
            ∙ sym c.get-c.ensures.value ∙ w.if-c-ne0.false));
      }
    ]

pub returns-clause-field : goal.returns-clause-field
returns-clause-field c = rw (← c.prime.ensures) (prime_field c.prime.result)

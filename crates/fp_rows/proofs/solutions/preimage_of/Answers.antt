use Rattle.std.proofs.Common.{◌≡◌, ℕ, ◌+◌, ◌*◌, ◌<◌, List, length, add-one, arith, ap, sym, ◌∙◌, refl}
use Rattle.group_table.specs.Prime.{prime_value}
use Rattle.linear_algebra.specs.Modular.{sum_below}
use Rattle.linear_algebra.specs.Rows.{entry, row, pivot, add_multiple, IsRow, IsCombination}
use Rattle.linear_algebra.proofs.Congruences.{congruent_trans, congruent_eq}
use Rattle.linear_algebra.proofs.MemberLemmas.{member_at}
use Rattle.linear_algebra.proofs.Reducing.{add_multiple_is_row}
use Rattle.linear_algebra.proofs.Spans.{in_span_trans}
use Rattle.fp_rows.specs.Refs.{entries_of}
use Rattle.fp_rows.specs.Values.{RowValue}
use Rattle.fp_rows.proofs.Primes.{prime_above_one}
use Rattle.fp_rows.proofs.SolvingLemmas.{zeros_row, entry_zeros, zeros_make, more_made, zero_added}
use Rattle.fp_rows.proofs.solutions.preimage_of.Goals as goal
use Rattle.fp_rows.proofs.solutions.preimage_of.Goals.{then-c-ne0, else-c-ne0}

-- a row with the factor 0 need not be added
none_made : {p : ℕ} (rows : List (List ℕ)) (u : List ℕ) (f g : ℕ → ℕ) → IsCombination p (entry u) rows f
    → IsCombination p (entry u) rows (λ j. f j + 0 * g j)
none_made rows u f g h = record {
  each = λ j. congruent_trans (h.each j) (congruent_eq (let e : f j ≡ f j + 0 * g j = omega arith in e));
}

pub loop-i-init : goal.loop-i-init
loop-i-init c =
    let one : 1 < prime_value c.args.p = prime_above_one c.args.p in
    rw c.in_ok-u.ensures (record {
      prime = refl;
      is_row = zeros_row (prime_value c.args.p) c.args.n (omega arith);
      maps = λ rows e h. zeros_make c.args.n rows;
      zeros = λ rows j e h l. entry_zeros c.args.n (pivot (row c.args.s.now.kernel.rows j));
    })

pub loop-i-preserved : goal.loop-i-preserved
loop-i-preserved c =
    let P : ℕ = prime_value c.args.p in
    let one : 1 < P = prime_above_one c.args.p in
    let l : c.loop-i.i < length c.args.s.now.image.rows =
    omega (arith, c.loop-i-test.true, c.rows-i-end.ensures.count) in
    let r : List ℕ = row c.args.s.now.preimages.rows c.loop-i.i in
    let g : c.get-c.result ≡ entry (entries_of c.args.target)
    (pivot (row c.args.s.now.image.rows c.loop-i.i)) = c.get-c.ensures.value
    ∙ ap (entry (entries_of c.args.target)) c.pivot.ensures.place in
    elim c.if-c-ne0.branch [
      | then-c-ne0 w ↦
          let rr : IsRow P c.args.n r = rw
          (c.requires.primes.1, c.requires.widths.1) at w.row.ensures.is_row in
          let e : c.if-c-ne0.u.entries ≡ add_multiple P c.get-c.result c.loop-i.u.entries r =
          ap (λ (v : RowValue). v.entries) w.u-is
          ∙ (rw (w.add.ensures, c.loop-i.invariant.prime, w.row.ensures.entries) refl) in
          record {
            prime = ap (λ (v : RowValue). v.p) w.u-is ∙ (rw w.add.ensures c.loop-i.invariant.prime);
            is_row = rw e (add_multiple_is_row c.get-c.result c.loop-i.u.entries r
                (omega arith) c.loop-i.invariant.is_row rr);
            maps = λ rows n h. rw (
              e,
              add-one,
              g,
            ) (more_made (entry (entries_of c.args.target)
                (pivot (row c.args.s.now.image.rows c.loop-i.i))) rows c.loop-i.u.entries r
                (λ j. sum_below c.loop-i.i (λ i. entry (entries_of c.args.target)
                (pivot (row c.args.s.now.image.rows i)) * entry (row c.args.s.now.image.rows i) j))
                (entry (row c.args.s.now.image.rows c.loop-i.i)) c.loop-i.invariant.is_row rr
                (c.loop-i.invariant.maps rows n h) (h.each c.loop-i.i l).maps);
            zeros = λ rows j n h b. rw e (zero_added P c.get-c.result c.loop-i.u.entries r
                (pivot (row c.args.s.now.kernel.rows j))
                (rr.length_is ∙ sym c.loop-i.invariant.is_row.length_is)
                ((h.each c.loop-i.i l).zero_at_pivots j b)
                (λ x y. c.loop-i.invariant.is_row.below x
                (omega (arith, y, c.loop-i.invariant.is_row.length_is)))
                ∙ c.loop-i.invariant.zeros rows j n h b);
          }
      | else-c-ne0 w ↦
          let z : entry (entries_of c.args.target) (pivot (row c.args.s.now.image.rows c.loop-i.i)) ≡ 0 =
          sym g ∙ w.if-c-ne0.false in
          record {
            prime = rw w.u-is c.loop-i.invariant.prime;
            is_row = rw w.u-is c.loop-i.invariant.is_row;
            maps = λ rows n h. rw (w.u-is, add-one, z) (none_made rows c.loop-i.u.entries
                (λ j. sum_below c.loop-i.i (λ i. entry (entries_of c.args.target)
                (pivot (row c.args.s.now.image.rows i)) * entry (row c.args.s.now.image.rows i) j))
                (entry (row c.args.s.now.image.rows c.loop-i.i)) (c.loop-i.invariant.maps rows n h));
            zeros = λ rows j n h b. rw w.u-is (c.loop-i.invariant.zeros rows j n h b);
          }
    ]

pub returns-clause-preimage : goal.returns-clause-preimage
returns-clause-preimage c = λ rows n image h span.
    let P : ℕ = prime_value c.args.p in
    let all : c.loop-i.i ≡ length c.args.s.now.image.rows =
    omega (arith, c.loop-i-test.false, c.rows-i-end.ensures.count, c.loop-i.auto.i-end) in
    record {
      is_row = rw n c.loop-i.invariant.is_row;
      maps = record {
        each = λ j. congruent_trans ((c.loop-i.invariant.maps rows n h).each j)
            (rw all (member_at (entries_of c.args.target) image.echelon (in_span_trans image.spans span) j));
      };
      zero_at_pivots = λ j b. c.loop-i.invariant.zeros rows j n h b;
    }

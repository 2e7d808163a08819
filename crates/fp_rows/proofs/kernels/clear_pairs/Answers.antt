use Rattle.std.proofs.Common.{◌≡◌, ℕ, ◌-◌, ◌<◌, [], length, get_or, arith, ap, sym, ◌∙◌, refl}
use Rattle.std.proofs.lemmas.List.{get_or-map, length-set, set-get_or}
use Rattle.std.proofs.lemmas.List.Elements.{All-set}
use Rattle.linear_algebra.specs.Rows.{entry, row, add_multiple, IsRow, IsCombination}
use Rattle.fp_rows.specs.Lists.{lists}
use Rattle.fp_rows.specs.Values.{RowValue}
use Rattle.fp_rows.proofs.ListLemmas.{length-lists, lists-set}
use Rattle.fp_rows.proofs.Primes.{prime_above_one, prime_field}
use Rattle.fp_rows.proofs.ClearingLemmas.{cleared_step, cleared_zero}
use Rattle.linear_algebra.proofs.Reducing.{cleared_by, add_multiple_is_row}
use Rattle.fp_rows.proofs.SolvingLemmas.{combination_added, zero_added, set_both, set_kept}
use Rattle.fp_rows.proofs.kernels.clear_pairs.Goals as goal
use Rattle.fp_rows.proofs.kernels.clear_pairs.Goals.{then-c-ne0, else-c-ne0}

pub get-c-requires : goal.get-c-requires
get-c-requires c =
    let p : ℕ = c.args.v.now.p in
    let n : c.loop-i.i < length c.args.rows.now = omega (arith, c.loop-i-test.true, c.loop-i.auto.rows) in
    let l : c.loop-i.i < length (lists c.args.rows.now) = omega (arith, n, length-lists c.args.rows.now) in
    let m : c.loop-i.i < length c.loop-i.rows = omega (arith, n, c.loop-i.auto.rows) in
    let x : RowValue = get_or c.loop-i.rows c.loop-i.i c.index-rows-i.result in
    let s : row (lists c.args.rows.now) c.loop-i.i ≡ x.entries =
    sym (c.loop-i.invariant.cleared.rest c.loop-i.i (omega arith))
    ∙ get_or-map (λ v. v.entries) c.loop-i.rows c.loop-i.i c.index-rows-i.result [] m in
    let o : x.p ≡ p = c.loop-i.invariant.over c.loop-i.i c.index-rows-i.result m in
    let r : IsRow p (length c.args.v.now.entries) (row (lists c.args.rows.now) c.loop-i.i) =
    c.requires.rows_are c.loop-i.i l in
    let k : c.loop-i.i < length c.loop-i.made =
    omega (arith, n, c.loop-i.invariant.made_count, c.requires.same_count) in
    let ry : IsRow p (length c.args.u.now.entries) (row (lists c.loop-i.made) c.loop-i.i) =
    c.loop-i.invariant.made_rows c.loop-i.i (omega (arith, k, length-lists c.loop-i.made)) in
    let urow : IsRow p (length c.args.u.now.entries) c.args.u.now.entries =
    rw c.requires.same_prime at c.len-made.ensures.row in
    omega (arith, c.requires.inside, ap length s, r.length_is)

pub add_row-requires-clause-row : goal.add_row-requires-clause-row
add_row-requires-clause-row c =
    let p : ℕ = c.args.v.now.p in
    let n : c.loop-i.i < length c.args.rows.now = omega (arith, c.loop-i-test.true, c.loop-i.auto.rows) in
    let l : c.loop-i.i < length (lists c.args.rows.now) = omega (arith, n, length-lists c.args.rows.now) in
    let m : c.loop-i.i < length c.loop-i.rows = omega (arith, n, c.loop-i.auto.rows) in
    let x : RowValue = get_or c.loop-i.rows c.loop-i.i c.index-rows-i.result in
    let s : row (lists c.args.rows.now) c.loop-i.i ≡ x.entries =
    sym (c.loop-i.invariant.cleared.rest c.loop-i.i (omega arith))
    ∙ get_or-map (λ v. v.entries) c.loop-i.rows c.loop-i.i c.index-rows-i.result [] m in
    let o : x.p ≡ p = c.loop-i.invariant.over c.loop-i.i c.index-rows-i.result m in
    let r : IsRow p (length c.args.v.now.entries) (row (lists c.args.rows.now) c.loop-i.i) =
    c.requires.rows_are c.loop-i.i l in
    let k : c.loop-i.i < length c.loop-i.made =
    omega (arith, n, c.loop-i.invariant.made_count, c.requires.same_count) in
    let ry : IsRow p (length c.args.u.now.entries) (row (lists c.loop-i.made) c.loop-i.i) =
    c.loop-i.invariant.made_rows c.loop-i.i (omega (arith, k, length-lists c.loop-i.made)) in
    let urow : IsRow p (length c.args.u.now.entries) c.args.u.now.entries =
    rw c.requires.same_prime at c.len-made.ensures.row in
    rw (o, ← s, r.length_is) c.prime.ensures.row

pub add_row-requires-then-c-ne0-clause-row : goal.add_row-requires-then-c-ne0-clause-row
add_row-requires-then-c-ne0-clause-row c =
    let p : ℕ = c.args.v.now.p in
    let n : c.loop-i.i < length c.args.rows.now = omega (arith, c.loop-i-test.true, c.loop-i.auto.rows) in
    let l : c.loop-i.i < length (lists c.args.rows.now) = omega (arith, n, length-lists c.args.rows.now) in
    let m : c.loop-i.i < length c.loop-i.rows = omega (arith, n, c.loop-i.auto.rows) in
    let x : RowValue = get_or c.loop-i.rows c.loop-i.i c.index-rows-i.result in
    let s : row (lists c.args.rows.now) c.loop-i.i ≡ x.entries =
    sym (c.loop-i.invariant.cleared.rest c.loop-i.i (omega arith))
    ∙ get_or-map (λ v. v.entries) c.loop-i.rows c.loop-i.i c.index-rows-i.result [] m in
    let o : x.p ≡ p = c.loop-i.invariant.over c.loop-i.i c.index-rows-i.result m in
    let r : IsRow p (length c.args.v.now.entries) (row (lists c.args.rows.now) c.loop-i.i) =
    c.requires.rows_are c.loop-i.i l in
    let k : c.loop-i.i < length c.loop-i.made =
    omega (arith, n, c.loop-i.invariant.made_count, c.requires.same_count) in
    let ry : IsRow p (length c.args.u.now.entries) (row (lists c.loop-i.made) c.loop-i.i) =
    c.loop-i.invariant.made_rows c.loop-i.i (omega (arith, k, length-lists c.loop-i.made)) in
    let urow : IsRow p (length c.args.u.now.entries) c.args.u.now.entries =
    rw c.requires.same_prime at c.len-made.ensures.row in
    let y : RowValue = get_or c.loop-i.made c.loop-i.i c.index-made-i.result in
    let z : row (lists c.loop-i.made) c.loop-i.i ≡ y.entries =
    get_or-map (λ v. v.entries) c.loop-i.made c.loop-i.i c.index-made-i.result [] k in
    let oy : y.p ≡ p = c.loop-i.invariant.made_over c.loop-i.i c.index-made-i.result k in
    rw (oy, ← z, ry.length_is) urow

pub loop-i-preserved : goal.loop-i-preserved
loop-i-preserved c =
    let p : ℕ = c.args.v.now.p in
    let n : c.loop-i.i < length c.args.rows.now = omega (arith, c.loop-i-test.true, c.loop-i.auto.rows) in
    let l : c.loop-i.i < length (lists c.args.rows.now) = omega (arith, n, length-lists c.args.rows.now) in
    let m : c.loop-i.i < length c.loop-i.rows = omega (arith, n, c.loop-i.auto.rows) in
    let x : RowValue = get_or c.loop-i.rows c.loop-i.i c.index-rows-i.result in
    let s : row (lists c.args.rows.now) c.loop-i.i ≡ x.entries =
    sym (c.loop-i.invariant.cleared.rest c.loop-i.i (omega arith))
    ∙ get_or-map (λ v. v.entries) c.loop-i.rows c.loop-i.i c.index-rows-i.result [] m in
    let o : x.p ≡ p = c.loop-i.invariant.over c.loop-i.i c.index-rows-i.result m in
    let r : IsRow p (length c.args.v.now.entries) (row (lists c.args.rows.now) c.loop-i.i) =
    c.requires.rows_are c.loop-i.i l in
    let k : c.loop-i.i < length c.loop-i.made =
    omega (arith, n, c.loop-i.invariant.made_count, c.requires.same_count) in
    let ry : IsRow p (length c.args.u.now.entries) (row (lists c.loop-i.made) c.loop-i.i) =
    c.loop-i.invariant.made_rows c.loop-i.i (omega (arith, k, length-lists c.loop-i.made)) in
    let urow : IsRow p (length c.args.u.now.entries) c.args.u.now.entries =
    rw c.requires.same_prime at c.len-made.ensures.row in
    let g : c.get-c.result ≡ entry (row (lists c.args.rows.now) c.loop-i.i) c.args.t = c.get-c.ensures.value
    ∙ ap (λ r. entry r c.args.t) (sym s) in
    let f : ℕ = c.value-m.result - c.get-c.result in
    let one : 1 < p = rw c.prime.ensures.value at (prime_above_one c.prime.result) in
    elim c.if-c-ne0.branch [
      | then-c-ne0 w ↦
          let y : RowValue = get_or c.loop-i.made c.loop-i.i w.index-made-i.result in
          let z : row (lists c.loop-i.made) c.loop-i.i ≡ y.entries =
          get_or-map (λ v. v.entries) c.loop-i.made c.loop-i.i w.index-made-i.result [] k in
          let oy : y.p ≡ p = c.loop-i.invariant.made_over c.loop-i.i w.index-made-i.result k in
          let dx : w.add_row.new.self.entries ≡ add_multiple p f
          (row (lists c.args.rows.now) c.loop-i.i) c.args.v.now.entries =
          rw (w.add_row.ensures, o, ← s) refl in
          let dy : w.add_row-then-c-ne0.new.self.entries ≡ add_multiple p f
          (row (lists c.loop-i.made) c.loop-i.i) c.args.u.now.entries =
          rw (w.add_row-then-c-ne0.ensures, oy, ← z) refl in
          let lm : c.loop-i.i < length (lists c.loop-i.rows) = omega (arith, m, length-lists c.loop-i.rows) in
          let lk : c.loop-i.i < length (lists c.loop-i.made) = omega (arith, k, length-lists c.loop-i.made) in
          record {
            over = rw w.rows-is (All-set (λ r. r.p ≡ p) c.loop-i.rows c.loop-i.i w.add_row.new.self
                (rw w.add_row.ensures o) c.loop-i.invariant.over);
            made_over = rw w.made-is (All-set
                (λ r. r.p ≡ p) c.loop-i.made c.loop-i.i w.add_row-then-c-ne0.new.self
                (rw w.add_row-then-c-ne0.ensures oy) c.loop-i.invariant.made_over);
            made_count = ap length w.made-is
                ∙ length-set c.loop-i.made c.loop-i.i w.add_row-then-c-ne0.new.self
                ∙ c.loop-i.invariant.made_count;
            cleared = rw (w.rows-is, lists-set)
                (cleared_step w.add_row.new.self.entries l c.loop-i.invariant.cleared
                (rw (
                  dx,
                  c.value-m.ensures,
                  c.prime.ensures.value,
                  g,
                ) (cleared_by c.args.v.now.entries (row (lists c.args.rows.now) c.loop-i.i)
                (omega arith) c.prime.ensures.row r)));
            made_rows = rw (w.made-is, lists-set)
                (λ j b. set_both (λ a b. IsRow p (length c.args.u.now.entries) b)
                (length (lists c.loop-i.made)) (lists c.loop-i.made) (lists c.loop-i.made) c.loop-i.i
                w.add_row-then-c-ne0.new.self.entries w.add_row-then-c-ne0.new.self.entries lk lk
                c.loop-i.invariant.made_rows
                (rw dy (add_multiple_is_row f (row (lists c.loop-i.made) c.loop-i.i) c.args.u.now.entries
                (omega arith) ry urow))
                j (rw length-set at b));
            maps = λ gens hu each. rw (
              w.made-is,
              w.rows-is,
              lists-set c.loop-i.made c.loop-i.i w.add_row-then-c-ne0.new.self,
              lists-set c.loop-i.rows c.loop-i.i w.add_row.new.self,
            )
                (set_both (λ d a. IsCombination p (entry a) gens (entry d)) (length c.args.rows.now)
                (lists c.loop-i.rows) (lists c.loop-i.made) c.loop-i.i
                w.add_row.new.self.entries w.add_row-then-c-ne0.new.self.entries lm lk
                (c.loop-i.invariant.maps gens hu each)
                (rw (dx, dy) (combination_added f gens
                (row (lists c.loop-i.made) c.loop-i.i) c.args.u.now.entries
                (row (lists c.args.rows.now) c.loop-i.i) c.args.v.now.entries ry urow r
                c.prime.ensures.row
                (rw (c.loop-i.invariant.cleared.rest c.loop-i.i (omega arith)) at
                (c.loop-i.invariant.maps gens hu each c.loop-i.i n)) hu)));
            kept = λ j x b zero. rw (
              w.made-is,
              lists-set,
            ) (set_kept (lists c.loop-i.made)
                (lists c.args.made.now) c.loop-i.i x j w.add_row-then-c-ne0.new.self.entries lk
                (c.loop-i.invariant.kept j x b zero)
                (rw dy (zero_added p f (row (lists c.loop-i.made) c.loop-i.i) c.args.u.now.entries x
                (sym ry.length_is) zero (λ j b. ry.below j (omega (arith, b, ry.length_is))))
                ∙ c.loop-i.invariant.kept c.loop-i.i x n zero));
          }
      | else-c-ne0 w ↦ record {
        over = rw w.rows-is (All-set (λ r. r.p ≡ p) c.loop-i.rows c.loop-i.i x o c.loop-i.invariant.over);
        made_over = rw w.made-is c.loop-i.invariant.made_over;
        made_count = ap length w.made-is ∙ c.loop-i.invariant.made_count;
        cleared = rw (
          w.rows-is,
          lists-set,
          ← s,
        ) (cleared_step (row (lists c.args.rows.now) c.loop-i.i) l c.loop-i.invariant.cleared
            (cleared_zero r (sym g ∙ w.if-c-ne0.false)));
        made_rows = rw w.made-is c.loop-i.invariant.made_rows;
        maps = rw (w.made-is, w.rows-is, set-get_or) c.loop-i.invariant.maps;
        kept = rw w.made-is c.loop-i.invariant.kept;
      }
    ]

pub returns-clause-field : goal.returns-clause-field
returns-clause-field c = rw c.prime.ensures.value at (prime_field c.prime.result)

use Rattle.std.proofs.Common.{◌≡◌, ◌<◌, [], length, get_or, arith, ap, sym, ◌∙◌}
use Rattle.std.proofs.lemmas.List.{get_or-map}
use Rattle.std.proofs.lemmas.List.Elements.{All-set, All-get_or}
use Rattle.linear_algebra.specs.Rows.{entry, row, IsRow}
use Rattle.fp_rows.specs.Lists.{lists}
use Rattle.fp_rows.specs.Values.{RowValue}
use Rattle.fp_rows.proofs.ListLemmas.{length-lists, lists-set}
use Rattle.fp_rows.proofs.Primes.{prime_above_one}
use Rattle.fp_rows.proofs.ClearingLemmas.{cleared_step, cleared_zero}
use Rattle.linear_algebra.proofs.Reducing.{cleared_by}
use Rattle.fp_rows.proofs.elimination.clear_column.Goals as goal
use Rattle.fp_rows.proofs.elimination.clear_column.Goals.{then-c-ne0, else-c-ne0}

pub loop-r-preserved : goal.loop-r-preserved
loop-r-preserved c = let l : c.loop-r.r-index < length (lists c.args.rows.now) =
    rw length-lists c.loop-r-test.true in
    let m : c.loop-r.r-index < length c.loop-r.rows = omega arith in
    let x : RowValue = get_or c.loop-r.rows c.loop-r.r-index c.r-item.result in
    let s : row (lists c.args.rows.now) c.loop-r.r-index ≡ x.entries =
    sym (c.loop-r.invariant.cleared.rest c.loop-r.r-index (omega arith))
    ∙ get_or-map (λ v. v.entries) c.loop-r.rows c.loop-r.r-index c.r-item.result [] m in
    let o : x.p ≡ c.args.v.now.p = All-get_or
    (λ r. r.p ≡ c.args.v.now.p) c.loop-r.rows c.loop-r.r-index c.r-item.result m c.loop-r.invariant.over
    in
    let one : 1 < c.args.v.now.p = rw c.prime.ensures.value at (prime_above_one c.prime.result) in
    let r : IsRow c.args.v.now.p (length c.args.v.now.entries)
    (row (lists c.args.rows.now) c.loop-r.r-index) = c.requires.rows_are c.loop-r.r-index l in
    let k : c.get-c.result ≡ entry (row (lists c.args.rows.now) c.loop-r.r-index) c.args.t =
    c.get-c.ensures.value ∙ ap (λ r. entry r c.args.t) (sym s) in
    elim c.if-c-ne0.branch [
      | then-c-ne0 w ↦ record {
        over = rw w.rows-is (All-set (λ r. r.p
            ≡ c.args.v.now.p) c.loop-r.rows c.loop-r.r-index w.add_row.new.self
            (rw w.add_row.ensures o) c.loop-r.invariant.over);
        cleared = rw (w.rows-is, lists-set)
            (cleared_step w.add_row.new.self.entries l c.loop-r.invariant.cleared
            (rw (
              w.add_row.ensures,
              o,
              ← s,
              c.value-m.ensures,
              c.prime.ensures.value,
              k,
            ) (cleared_by c.args.v.now.entries (row (lists c.args.rows.now) c.loop-r.r-index)
            (omega arith) c.prime.ensures.row r)));
      }
      | else-c-ne0 w ↦ record {
        over = rw w.rows-is (All-set (λ r. r.p
            ≡ c.args.v.now.p) c.loop-r.rows c.loop-r.r-index x o c.loop-r.invariant.over);
        cleared = rw (
          w.rows-is,
          lists-set,
          ← s,
        ) (cleared_step (row (lists c.args.rows.now) c.loop-r.r-index) l c.loop-r.invariant.cleared
            (cleared_zero r (sym k ∙ w.if-c-ne0.false)));
      }
    ]

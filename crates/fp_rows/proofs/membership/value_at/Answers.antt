use Rattle.std.proofs.Common.{◌≡◌, ◌<◌, length, arith, ap, sym, ◌∙◌, refl}
use Rattle.group_table.specs.Prime.{prime_value}
use Rattle.linear_algebra.specs.Rows.{entry, row, pivot, IsRow}
use Rattle.fp_rows.specs.Lists.{lists}
use Rattle.fp_rows.specs.Refs.{entries_of}
use Rattle.linear_algebra.proofs.MemberLemmas.{next_term}
use Rattle.fp_rows.proofs.ListLemmas.{row_lists, length-lists, kept_pivot}
use Rattle.fp_rows.proofs.membership.value_at.Goals as goal

pub get-requires : goal.get-requires
get-requires c = let l : c.loop-i.i < length (lists c.args.rows.now) = rw length-lists (omega arith) in
    omega (
      arith,
      kept_pivot (lists c.args.rows.now) c.args.pivots.now c.loop-i.i c.requires.pivots_are l,
      c.requires.echelon.not_zero c.loop-i.i l,
      (c.requires.matrix c.loop-i.i l).length_is,
    )

pub get-requires-in-loop-i : goal.get-requires-in-loop-i
get-requires-in-loop-i c = let l : c.loop-i.i < length (lists c.args.rows.now) =
    rw length-lists (omega arith) in
    let s : row (lists c.args.rows.now) c.loop-i.i ≡ c.index-rows-i.result.entries =
    row_lists c.args.rows.now c.loop-i.i c.index-rows-i.result (omega arith) c.index-rows-i.is in
    let n = (c.requires.matrix c.loop-i.i l).length_is in omega (arith, c.requires.inside, ap length s, n)

pub add_product-sum-requires-clause-b_is : goal.add_product-sum-requires-clause-b_is
add_product-sum-requires-clause-b_is c = let l : c.loop-i.i < length (lists c.args.rows.now) =
    rw length-lists (omega arith) in
    let s : row (lists c.args.rows.now) c.loop-i.i ≡ c.index-rows-i.result.entries =
    row_lists c.args.rows.now c.loop-i.i c.index-rows-i.result (omega arith) c.index-rows-i.is in
    let r : IsRow (prime_value c.args.p) (length (entries_of c.args.v)) c.index-rows-i.result.entries =
    rw (← s) (c.requires.matrix c.loop-i.i l) in
    rw c.get-in-loop-i.ensures.value (r.below c.args.j c.requires.inside)

pub loop-i-preserved : goal.loop-i-preserved
loop-i-preserved c = let l : c.loop-i.i < length (lists c.args.rows.now) = rw length-lists (omega arith) in
    let s : row (lists c.args.rows.now) c.loop-i.i ≡ c.index-rows-i.result.entries =
    row_lists c.args.rows.now c.loop-i.i c.index-rows-i.result (omega arith) c.index-rows-i.is in
    let b : c.get-in-loop-i.result ≡ entry (row (lists c.args.rows.now) c.loop-i.i) c.args.j =
    c.get-in-loop-i.ensures.value ∙ ap (λ x. entry x c.args.j) (sym s) in
    let a : c.get.result ≡ entry (entries_of c.args.v) (pivot (row (lists c.args.rows.now) c.loop-i.i)) =
    c.get.ensures.value ∙ ap (entry (entries_of c.args.v))
    (kept_pivot (lists c.args.rows.now) c.args.pivots.now c.loop-i.i c.requires.pivots_are l) in
    record {
      below = c.add_product-sum.ensures.below;
      value = rw (
        c.add_product-sum.ensures.value,
        a,
        b,
      ) (next_term c.loop-i.i _ _ refl c.loop-i.invariant.value);
    }

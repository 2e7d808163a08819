use Rattle.std.proofs.Common.{◌≡◌, ℕ, ◌<◌, List, length, ap, sym, ◌∙◌}
use Rattle.group_table.specs.Prime.{prime_value}
use Rattle.linear_algebra.specs.Rows.{row, IsMatrix}
use Rattle.fp_rows.specs.Lists.{lists, AreOver}
use Rattle.fp_rows.specs.Values.{RowValue}
use Rattle.fp_rows.proofs.ListLemmas.{row_lists, length-lists, over_at}
use Rattle.linear_algebra.proofs.EliminationLemmas.{echelon_more}
use Rattle.fp_rows.proofs.spans.echelon.Goals as goal

pub insert_row-requires-clause-matrix : goal.insert_row-requires-clause-matrix
insert_row-requires-clause-matrix c =
    let vs : List RowValue = c.deref-r-items.result.now in
    let P : ℕ = prime_value c.m.inside.prime in
    let l : c.loop-r.r-index < length (lists vs) = rw length-lists c.loop-r-test.true in
    let over : AreOver P vs = rw c.deref-r-items.ensures.value c.m.invariant.over in
    let matrix : IsMatrix P c.m.inside.width (lists vs) =
    rw c.deref-r-items.ensures.value c.m.invariant.matrix in
    let vp : c.in_ok-v.v.p ≡ P = ap (λ (r : RowValue). r.p) c.in_ok-v.ensures ∙ c.view.ensures.modulus
    ∙ over_at P vs c.loop-r.r-index c.r-item.result c.loop-r-test.true c.r-item.is over in
    let ve : c.in_ok-v.v.entries ≡ row (lists vs) c.loop-r.r-index =
    ap (λ (r : RowValue). r.entries) c.in_ok-v.ensures ∙ c.view.ensures.entries
    ∙ sym (row_lists vs c.loop-r.r-index c.r-item.result c.loop-r-test.true c.r-item.is) in
    let w : length c.in_ok-v.v.entries ≡ c.m.inside.width = ap length ve
    ∙ (matrix c.loop-r.r-index l).length_is in
    rw (vp, w) c.loop-r.invariant.rows_are.matrix

pub insert_row-requires-clause-over : goal.insert_row-requires-clause-over
insert_row-requires-clause-over c =
    let vs : List RowValue = c.deref-r-items.result.now in
    let P : ℕ = prime_value c.m.inside.prime in
    let l : c.loop-r.r-index < length (lists vs) = rw length-lists c.loop-r-test.true in
    let over : AreOver P vs = rw c.deref-r-items.ensures.value c.m.invariant.over in
    let matrix : IsMatrix P c.m.inside.width (lists vs) =
    rw c.deref-r-items.ensures.value c.m.invariant.matrix in
    let vp : c.in_ok-v.v.p ≡ P = ap (λ (r : RowValue). r.p) c.in_ok-v.ensures ∙ c.view.ensures.modulus
    ∙ over_at P vs c.loop-r.r-index c.r-item.result c.loop-r-test.true c.r-item.is over in
    let ve : c.in_ok-v.v.entries ≡ row (lists vs) c.loop-r.r-index =
    ap (λ (r : RowValue). r.entries) c.in_ok-v.ensures ∙ c.view.ensures.entries
    ∙ sym (row_lists vs c.loop-r.r-index c.r-item.result c.loop-r-test.true c.r-item.is) in
    let w : length c.in_ok-v.v.entries ≡ c.m.inside.width = ap length ve
    ∙ (matrix c.loop-r.r-index l).length_is in
    rw vp c.loop-r.invariant.over

pub loop-r-preserved : goal.loop-r-preserved
loop-r-preserved c =
    let vs : List RowValue = c.deref-r-items.result.now in
    let P : ℕ = prime_value c.m.inside.prime in
    let l : c.loop-r.r-index < length (lists vs) = rw length-lists c.loop-r-test.true in
    let over : AreOver P vs = rw c.deref-r-items.ensures.value c.m.invariant.over in
    let matrix : IsMatrix P c.m.inside.width (lists vs) =
    rw c.deref-r-items.ensures.value c.m.invariant.matrix in
    let vp : c.in_ok-v.v.p ≡ P = ap (λ (r : RowValue). r.p) c.in_ok-v.ensures ∙ c.view.ensures.modulus
    ∙ over_at P vs c.loop-r.r-index c.r-item.result c.loop-r-test.true c.r-item.is over in
    let ve : c.in_ok-v.v.entries ≡ row (lists vs) c.loop-r.r-index =
    ap (λ (r : RowValue). r.entries) c.in_ok-v.ensures ∙ c.view.ensures.entries
    ∙ sym (row_lists vs c.loop-r.r-index c.r-item.result c.loop-r-test.true c.r-item.is) in
    let w : length c.in_ok-v.v.entries ≡ c.m.inside.width = ap length ve
    ∙ (matrix c.loop-r.r-index l).length_is in
    record {
      rows_are = echelon_more (lists vs) c.loop-r.r-index l ve c.loop-r.invariant.rows_are
          (rw (vp, w) at c.in_ok-insert_row.ensures.rows_are);
      over = rw vp at c.in_ok-insert_row.ensures.over;
      pivots_are = c.in_ok-insert_row.ensures.pivots_are;
    }

use Rattle.std.proofs.Common.{◌≡◌, ℕ, ◌<◌, List, [], ◌∷◌, ◌++◌, length, map, ap, sym, ◌∙◌}
use Rattle.group_table.specs.Prime.{prime_value}
use Rattle.linear_algebra.specs.Rows.{row, pivot, IsMatrix, IsEchelonOf}
use Rattle.linear_algebra.proofs.GreedyTurns.{greedy_start, greedy_passed, greedy_taken}
use Rattle.fp_rows.specs.Lists.{lists, AreOver}
use Rattle.fp_rows.specs.Values.{RowValue, MatrixValue}
use Rattle.fp_rows.proofs.ListLemmas.{row_lists, length-lists, over_at}
use Rattle.fp_rows.proofs.complement.greedy.Goals as goal
use Rattle.fp_rows.proofs.complement.greedy.Goals.{then-branch+in_ok-push, else-branch}

pub loop-i-init : goal.loop-i-init
loop-i-init c =
    let rows : c.in_ok-rows.rows.items ≡ c.taken.inside.rows.items = c.in_ok-rows.ensures
    ∙ c.deref.ensures.value in
    record {
      turn = rw (
        rows,
        c.new-positions.ensures,
        c.requires.same_prime,
        c.requires.same_width,
        ← c.t.view_is,
        ← c.taken.view_is,
      ) (greedy_start c.args.s.now.rows (lists c.taken.inside.rows.items) c.taken.invariant.matrix
          (rw (← c.taken.view_is) at c.t.invariant.echelon));
      over = rw (rows, c.requires.same_prime, ← c.t.view_is, ← c.taken.view_is) c.taken.invariant.over;
      pivots_are = c.in_ok-pivots.ensures ∙ c.deref-2.ensures.value ∙ c.t.invariant.pivots_are
          ∙ ap (λ (m : MatrixValue). map pivot m.rows) (sym c.taken.view_is)
          ∙ ap (λ vs. map pivot (lists vs)) (sym rows);
    }

pub insert_row-requires-clause-matrix : goal.insert_row-requires-clause-matrix
insert_row-requires-clause-matrix c =
    let vs : List RowValue = c.deref-r-items.result.now in
    let P : ℕ = prime_value c.offered.inside.prime in
    let l : c.loop-i.i < length (lists vs) = rw length-lists c.loop-i-test.true in
    let over : AreOver P vs = rw c.deref-r-items.ensures.value c.offered.invariant.over in
    let matrix : IsMatrix P c.offered.inside.width (lists vs) =
    rw c.deref-r-items.ensures.value c.offered.invariant.matrix in
    let vp : c.in_ok-v.v.p ≡ P = ap (λ (r : RowValue). r.p) c.in_ok-v.ensures ∙ c.view.ensures.modulus
    ∙ over_at P vs c.loop-i.i c.r-item.result c.loop-i-test.true c.r-item.is over in
    let ve : c.in_ok-v.v.entries ≡ row (lists vs) c.loop-i.i =
    ap (λ (r : RowValue). r.entries) c.in_ok-v.ensures ∙ c.view.ensures.entries
    ∙ sym (row_lists vs c.loop-i.i c.r-item.result c.loop-i-test.true c.r-item.is) in
    let w : length c.in_ok-v.v.entries ≡ c.offered.inside.width = ap length ve ∙ (matrix c.loop-i.i l).length_is in
    let vp' : c.in_ok-v.v.p ≡ c.args.s.now.p = vp ∙ ap (λ (m : MatrixValue). m.p) (c.offered.view_is ∙ c.s.view_is) in
    let w' : length c.in_ok-v.v.entries ≡ c.args.s.now.width = w
    ∙ ap (λ (m : MatrixValue). m.width) (c.offered.view_is ∙ c.s.view_is) in
    rw (vp', w') c.loop-i.invariant.turn.basis.matrix

pub insert_row-requires-clause-over : goal.insert_row-requires-clause-over
insert_row-requires-clause-over c =
    let vs : List RowValue = c.deref-r-items.result.now in
    let P : ℕ = prime_value c.offered.inside.prime in
    let l : c.loop-i.i < length (lists vs) = rw length-lists c.loop-i-test.true in
    let over : AreOver P vs = rw c.deref-r-items.ensures.value c.offered.invariant.over in
    let matrix : IsMatrix P c.offered.inside.width (lists vs) =
    rw c.deref-r-items.ensures.value c.offered.invariant.matrix in
    let vp : c.in_ok-v.v.p ≡ P = ap (λ (r : RowValue). r.p) c.in_ok-v.ensures ∙ c.view.ensures.modulus
    ∙ over_at P vs c.loop-i.i c.r-item.result c.loop-i-test.true c.r-item.is over in
    let ve : c.in_ok-v.v.entries ≡ row (lists vs) c.loop-i.i =
    ap (λ (r : RowValue). r.entries) c.in_ok-v.ensures ∙ c.view.ensures.entries
    ∙ sym (row_lists vs c.loop-i.i c.r-item.result c.loop-i-test.true c.r-item.is) in
    let w : length c.in_ok-v.v.entries ≡ c.offered.inside.width = ap length ve ∙ (matrix c.loop-i.i l).length_is in
    let vp' : c.in_ok-v.v.p ≡ c.args.s.now.p = vp ∙ ap (λ (m : MatrixValue). m.p) (c.offered.view_is ∙ c.s.view_is) in
    let w' : length c.in_ok-v.v.entries ≡ c.args.s.now.width = w
    ∙ ap (λ (m : MatrixValue). m.width) (c.offered.view_is ∙ c.s.view_is) in
    rw vp' c.loop-i.invariant.over

pub loop-i-preserved : goal.loop-i-preserved
loop-i-preserved c =
    let vs : List RowValue = c.deref-r-items.result.now in
    let P : ℕ = prime_value c.offered.inside.prime in
    let l : c.loop-i.i < length (lists vs) = rw length-lists c.loop-i-test.true in
    let over : AreOver P vs = rw c.deref-r-items.ensures.value c.offered.invariant.over in
    let matrix : IsMatrix P c.offered.inside.width (lists vs) =
    rw c.deref-r-items.ensures.value c.offered.invariant.matrix in
    let vp : c.in_ok-v.v.p ≡ P = ap (λ (r : RowValue). r.p) c.in_ok-v.ensures ∙ c.view.ensures.modulus
    ∙ over_at P vs c.loop-i.i c.r-item.result c.loop-i-test.true c.r-item.is over in
    let ve : c.in_ok-v.v.entries ≡ row (lists vs) c.loop-i.i =
    ap (λ (r : RowValue). r.entries) c.in_ok-v.ensures ∙ c.view.ensures.entries
    ∙ sym (row_lists vs c.loop-i.i c.r-item.result c.loop-i-test.true c.r-item.is) in
    let w : length c.in_ok-v.v.entries ≡ c.offered.inside.width = ap length ve ∙ (matrix c.loop-i.i l).length_is in
    let vp' : c.in_ok-v.v.p ≡ c.args.s.now.p = vp ∙ ap (λ (m : MatrixValue). m.p) (c.offered.view_is ∙ c.s.view_is) in
    let w' : length c.in_ok-v.v.entries ≡ c.args.s.now.width = w
    ∙ ap (λ (m : MatrixValue). m.width) (c.offered.view_is ∙ c.s.view_is) in
    let e : c.in_ok-v.v.entries ≡ row c.args.s.now.rows c.loop-i.i = ve
    ∙ ap (λ xs. row (lists xs) c.loop-i.i) c.deref-r-items.ensures.value
    ∙ ap (λ (m : MatrixValue). row m.rows c.loop-i.i) (c.offered.view_is ∙ c.s.view_is) in
    let basis : IsEchelonOf c.args.s.now.p c.args.s.now.width
    (lists c.loop-i.rows.items ++ c.in_ok-v.v.entries ∷ []) (lists c.insert_row.new.rows.items) =
    rw (vp', w') at c.in_ok-insert_row.ensures.rows_are in
    elim c.if-branch.branch [
      | then-branch+in_ok-push w ↦ record {
        turn = rw (w.positions-is, w.in_ok-push.ensures.pushed)
            (greedy_taken c.in_ok-v.v.entries e c.loop-i.invariant.turn
            (rw vp' at (c.in_ok-insert_row.ensures.outside w.if-branch.true)) basis);
        over = rw vp' at c.in_ok-insert_row.ensures.over;
        pivots_are = c.in_ok-insert_row.ensures.pivots_are;
      }
      | else-branch w ↦ record {
        turn = rw w.positions-is (greedy_passed c.in_ok-v.v.entries e c.loop-i.invariant.turn
            (rw vp' at (c.in_ok-insert_row.ensures.inside w.if-branch.false)) basis);
        over = rw vp' at c.in_ok-insert_row.ensures.over;
        pivots_are = c.in_ok-insert_row.ensures.pivots_are;
      }
    ]

use Rattle.std.proofs.Common.{◌≡◌, ℕ, suc, ◌<◌, ◌≤◌, List, ◌∷◌, length, map, reverse, arith, ap, sym, ◌∙◌}
use Rattle.std.proofs.lemmas.List.{map_push}
use Rattle.std.proofs.lemmas.List.Elements.{All-push}
use Rattle.linear_algebra.specs.Rows.{entry, row, pivot, IsRow, IsCombination, IsInSpan}
use Rattle.linear_algebra.specs.Elimination.{IsPrepared}
use Rattle.linear_algebra.specs.Kernels.{unit_row, IsInKernel}
use Rattle.linear_algebra.proofs.AugmentLemmas.{length-unit_row, entry_unit_same, entry_unit_other}
use Rattle.linear_algebra.proofs.Congruences.{congruent_trans, congruent_eq}
use Rattle.linear_algebra.proofs.PivotLemmas.{pivot_is, pivot-le-length}
use Rattle.linear_algebra.proofs.Prepared.{prepared_inside}
use Rattle.fp_rows.specs.Lists.{lists}
use Rattle.fp_rows.specs.Solving.{IsSolvedFrom}
use Rattle.fp_rows.specs.Values.{RowValue}
use Rattle.fp_rows.proofs.SolvingLemmas.{solved_dependent, unit_makes, zero_without_pivot, reversed_push}
use Rattle.fp_rows.proofs.kernels.step.Goals as goal

pub returns-in_ok-insert_pair : goal.returns-in_ok-insert_pair
returns-in_ok-insert_pair c =
    let P : ℕ = c.args.m.now.p in
    let rows : List (List ℕ) = c.args.m.now.rows in
    let k : ℕ = c.args.k in
    let n : ℕ = length rows in
    let h : IsSolvedFrom P c.args.m.now.width rows (suc k) (lists c.args.e.now.rows.items)
    (lists c.args.e.now.made.items) (reverse (lists c.args.e.now.kernel.items)) =
    c.requires.state.solved in
    let vp : c.in_ok-v.v.p ≡ P = ap (λ (r : RowValue). r.p) c.in_ok-v.ensures ∙ c.row.ensures.modulus in
    let ve : c.in_ok-v.v.entries ≡ row rows k = ap (λ (r : RowValue). r.entries) c.in_ok-v.ensures
    ∙ c.row.ensures.entries in
    let w : length c.in_ok-v.v.entries ≡ c.args.m.now.width = ap length ve ∙ c.row.ensures.is_row.length_is in
    let ue : c.in_ok-u.u.entries ≡ unit_row n k = ap (λ (r : RowValue). r.entries) c.in_ok-u.ensures
    ∙ ap (λ l. unit_row l k) c.rows.ensures.count in
    let n1 : length c.in_ok-u.u.entries ≡ n = ap length ue ∙ length-unit_row n k in
    let s : List ℕ = c.prepare_vecs-t.new.v.entries in
    let u : List ℕ = c.prepare_vecs-t.new.u.entries in
    let sp : c.prepare_vecs-t.new.v.p ≡ P = c.prepare_vecs-t.ensures.prime ∙ vp in
    let sl : length s ≡ c.args.m.now.width = c.prepare_vecs-t.ensures.prepared.is_row.length_is ∙ w in
    let prep : IsPrepared P c.args.m.now.width (lists c.args.e.now.rows.items) (row rows k) s =
    rw (vp, w, ve) at c.prepare_vecs-t.ensures.prepared in
    let urow : IsRow P n u = rw (vp, n1) at c.prepare_vecs-t.ensures.made_is in
    let start : IsCombination P (entry (unit_row n k)) rows (entry (row rows k)) =
    unit_makes rows k c.requires.below in
    let umade : IsCombination P (entry u) rows (entry s) =
    rw vp at (c.prepare_vecs-t.ensures.maps rows (rw vp h.made) (rw (vp, ue, ve) start)) in
    let before : (x : ℕ) → x < k → entry u x ≡ 0 =
    λ x l. c.prepare_vecs-t.ensures.zero x (rw ue (entry_unit_other n k x (omega arith)))
    (λ i b. h.later i x b (omega arith)) in
    let zeros : (j : ℕ) → j < length (reverse (lists c.args.e.now.kernel.items))
    → entry u (pivot (row (reverse (lists c.args.e.now.kernel.items)) j)) ≡ 0 =
    λ j l. let q : suc k ≤ pivot (row (reverse (lists c.args.e.now.kernel.items)) j) = h.kernel_later j l in
    c.prepare_vecs-t.ensures.zero (pivot (row (reverse (lists c.args.e.now.kernel.items)) j))
    (rw ue (entry_unit_other n k (pivot (row (reverse (lists c.args.e.now.kernel.items)) j))
    (omega arith))) (λ i b. h.apart i j b l) in
    record {
      solved = rw (sp, sl) at (c.in_ok-insert_pair.ensures.solved rows k
          (reverse (lists c.args.e.now.kernel.items)) urow.length_is (rw (sp, sl) h) (rw (sp, sl) prep)
          (rw sp urow) (rw sp umade) before zeros);
      over = rw sp at c.in_ok-insert_pair.ensures.over;
      made_over = rw sp at c.in_ok-insert_pair.ensures.made_over;
      kernel_over = c.requires.state.kernel_over;
      pivots_are = c.in_ok-insert_pair.ensures.pivots_are;
      kernel_pivots_are = c.requires.state.kernel_pivots_are;
    }

pub returns-in_ok-push-2 : goal.returns-in_ok-push-2
returns-in_ok-push-2 c =
    let P : ℕ = c.args.m.now.p in
    let rows : List (List ℕ) = c.args.m.now.rows in
    let k : ℕ = c.args.k in
    let n : ℕ = length rows in
    let h : IsSolvedFrom P c.args.m.now.width rows (suc k) (lists c.args.e.now.rows.items)
    (lists c.args.e.now.made.items) (reverse (lists c.args.e.now.kernel.items)) =
    c.requires.state.solved in
    let vp : c.in_ok-v.v.p ≡ P = ap (λ (r : RowValue). r.p) c.in_ok-v.ensures ∙ c.row.ensures.modulus in
    let ve : c.in_ok-v.v.entries ≡ row rows k = ap (λ (r : RowValue). r.entries) c.in_ok-v.ensures
    ∙ c.row.ensures.entries in
    let w : length c.in_ok-v.v.entries ≡ c.args.m.now.width = ap length ve ∙ c.row.ensures.is_row.length_is in
    let ue : c.in_ok-u.u.entries ≡ unit_row n k = ap (λ (r : RowValue). r.entries) c.in_ok-u.ensures
    ∙ ap (λ l. unit_row l k) c.rows.ensures.count in
    let n1 : length c.in_ok-u.u.entries ≡ n = ap length ue ∙ length-unit_row n k in
    let s : List ℕ = c.prepare_vecs-t.new.v.entries in
    let u : List ℕ = c.prepare_vecs-t.new.u.entries in
    let sp : c.prepare_vecs-t.new.v.p ≡ P = c.prepare_vecs-t.ensures.prime ∙ vp in
    let sl : length s ≡ c.args.m.now.width = c.prepare_vecs-t.ensures.prepared.is_row.length_is ∙ w in
    let prep : IsPrepared P c.args.m.now.width (lists c.args.e.now.rows.items) (row rows k) s =
    rw (vp, w, ve) at c.prepare_vecs-t.ensures.prepared in
    let urow : IsRow P n u = rw (vp, n1) at c.prepare_vecs-t.ensures.made_is in
    let start : IsCombination P (entry (unit_row n k)) rows (entry (row rows k)) =
    unit_makes rows k c.requires.below in
    let umade : IsCombination P (entry u) rows (entry s) =
    rw vp at (c.prepare_vecs-t.ensures.maps rows (rw vp h.made) (rw (vp, ue, ve) start)) in
    let before : (x : ℕ) → x < k → entry u x ≡ 0 =
    λ x l. c.prepare_vecs-t.ensures.zero x (rw ue (entry_unit_other n k x (omega arith)))
    (λ i b. h.later i x b (omega arith)) in
    let zeros : (j : ℕ) → j < length (reverse (lists c.args.e.now.kernel.items))
    → entry u (pivot (row (reverse (lists c.args.e.now.kernel.items)) j)) ≡ 0 =
    λ j l. let q : suc k ≤ pivot (row (reverse (lists c.args.e.now.kernel.items)) j) = h.kernel_later j l in
    c.prepare_vecs-t.ensures.zero (pivot (row (reverse (lists c.args.e.now.kernel.items)) j))
    (rw ue (entry_unit_other n k (pivot (row (reverse (lists c.args.e.now.kernel.items)) j))
    (omega arith))) (λ i b. h.apart i j b l) in
    let K : List (List ℕ) = reverse (lists c.args.e.now.kernel.items) in
    let whole : c.prepare_vecs-t.result ≡ length c.in_ok-v.v.entries =
    omega (
      arith,
      c.prepare_vecs-t.ensures.place,
      pivot-le-length s,
      c.if-t-len.false,
      c.len.ensures.count,
      c.prepare_vecs-t.ensures.prepared.is_row.length_is,
    ) in
    let none : length s ≤ pivot s = omega (
      arith,
      whole,
      c.prepare_vecs-t.ensures.place,
      c.prepare_vecs-t.ensures.prepared.is_row.length_is,
    ) in
    let one : entry u k ≡ 1 = c.prepare_vecs-t.ensures.kept whole k (λ i b. h.later i k b (omega arith))
    ∙ (rw ue (entry_unit_same n k c.requires.below)) in
    let kernel : IsInKernel P rows (entry u) =
    λ j. congruent_trans (umade.each j) (congruent_eq (zero_without_pivot s j none)) in
    let span : IsInSpan P (lists c.args.e.now.rows.items) (entry (row rows k)) =
    prepared_inside (row rows k) s prep (omega (arith, none, sl, pivot-le-length s)) in
    let pk : pivot u ≡ k = pivot_is u k before (λ z. let e : 1 ≡ 0 = sym one ∙ z in omega arith) in
    let pushed : reverse (lists c.push.new.self.items) ≡ u ∷ K =
    ap (λ vs. reverse (lists vs)) c.in_ok-push.ensures.items
    ∙ ap reverse (map_push (λ v. v.entries) c.args.e.now.kernel.items c.prepare_vecs-t.new.u)
    ∙ reversed_push (lists c.args.e.now.kernel.items) u in
    let up : c.prepare_vecs-t.new.u.p ≡ P = c.prepare_vecs-t.ensures.made_prime
    ∙ ap (λ (r : RowValue). r.p) c.in_ok-u.ensures ∙ c.prime.ensures in
    record {
      solved = rw pushed (solved_dependent h u urow one before zeros kernel span);
      over = c.requires.state.over;
      made_over = c.requires.state.made_over;
      kernel_over = rw c.in_ok-push.ensures.items
          (All-push (λ r. r.p ≡ P) c.args.e.now.kernel.items c.prepare_vecs-t.new.u
          c.requires.state.kernel_over up);
      pivots_are = c.requires.state.pivots_are;
      kernel_pivots_are = ap reverse c.in_ok-push-2.ensures.items
          ∙ reversed_push c.args.e.now.kernel_pivots.items k
          ∙ ap (λ q. q ∷ reverse c.args.e.now.kernel_pivots.items) (sym pk)
          ∙ ap (λ qs. pivot u ∷ qs) c.requires.state.kernel_pivots_are ∙ ap (map pivot) (sym pushed);
    }

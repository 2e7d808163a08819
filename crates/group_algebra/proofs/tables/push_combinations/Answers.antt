use Rattle.std.proofs.Common.{◌≡◌, ◌++◌, ◌∷◌, [], ◌+◌, ℕ, List, length, map, take, ap}
use Rattle.std.proofs.Common.{sym, ◌∙◌}
use Rattle.std.proofs.lemmas.List.{length-replicate, append-nil}
use Rattle.std.proofs.Math.Seq.{take-length}
use Rattle.linear_algebra.specs.Rows.{combination_row, entry, row}
use Rattle.fp_rows.specs.Refs.{entries_of}
use Rattle.fp_rows.specs.Values.{RowValue, MatrixValue}
use Rattle.fp_rows.proofs.Turns.{AreLeft, IsRowTurn, passed, passed-start, passed-turn, row-turn, row-end}
use Rattle.fp_rows.proofs.Turns.{turn-width}
use Rattle.group_algebra.proofs.Combined.{length-combination_row}
use Rattle.group_algebra.proofs.ListLemmas.{pushed-image}
use Rattle.group_algebra.proofs.tables.push_combinations.Goals as goal

pub loop-c-init : goal.loop-c-init
loop-c-init c =
    let M : MatrixValue = c.args.m.now in
    let C : MatrixValue = c.args.coefficients.now in
    let R : MatrixValue = c.args.rows.now in
    let f : List ℕ → List ℕ = λ u. combination_row R.p R.width (entry u) R.rows in
    let s : (passed C c.into_iter-c-iterator.result ≡ 0)
    × AreLeft C (passed C c.into_iter-c-iterator.result) c.into_iter-c-iterator.result =
    passed-start C _ c.into_iter-c-iterator.ensures.into_iter_gives in
    record {
      left = s.1;
      prime = ap (λ (r : RowValue). r.p) c.in_ok-out.ensures ∙ c.prime.ensures;
      length_is = ap (λ (r : RowValue). length r.entries) c.in_ok-out.ensures
          ∙ length-replicate c.width.result 0 ∙ c.width.ensures;
      pushed = sym (ap (λ (rs : List (List ℕ)). record M { rows = rs })
          (ap (λ k. M.rows ++ map f (take k C.rows)) s.0 ∙ append-nil M.rows));
    }

pub combine-requires-clause-coefficients : goal.combine-requires-clause-coefficients
combine-requires-clause-coefficients c =
    let t : IsRowTurn c.args.coefficients.now
    (passed c.args.coefficients.now c.loop-c.c-iterator) c.in-Some.c.now c.next.new.self =
    row-turn _ _ _ c.loop-c.c-iterator _ c.loop-c.invariant.left c.in-Some.ensures.steps in
    ap length c.view.ensures.entries ∙ turn-width c.into_iter-c-iterator.ensures.into_iter_gives.matrix t
    ∙ c.requires.coefficient_count

pub push-requires-clause-same_width : goal.push-requires-clause-same_width
push-requires-clause-same_width c =
    let R : MatrixValue = c.args.rows.now in
    ap length c.view-in-loop-c.ensures.entries ∙ ap (λ (r : RowValue). length r.entries) c.combine.ensures
    ∙ length-combination_row R.p R.width (entry (entries_of c.view.result)) R.rows
    ∙ sym c.requires.same_width ∙ sym (ap (λ (m : MatrixValue). m.width) c.loop-c.invariant.pushed)

pub loop-c-preserved : goal.loop-c-preserved
loop-c-preserved c =
    let M : MatrixValue = c.args.m.now in
    let C : MatrixValue = c.args.coefficients.now in
    let R : MatrixValue = c.args.rows.now in
    let f : List ℕ → List ℕ = λ u. combination_row R.p R.width (entry u) R.rows in
    let k : ℕ = passed C c.loop-c.c-iterator in
    let I = c.loop-c.invariant in
    let y : List ℕ = entries_of c.view-in-loop-c.result in
    let t : IsRowTurn C k c.in-Some.c.now c.next.new.self =
    row-turn _ _ _ c.loop-c.c-iterator _ I.left c.in-Some.ensures.steps in
    let u : (passed C c.next.new.self ≡ k + 1) × AreLeft C (passed C c.next.new.self) c.next.new.self =
    passed-turn C k _ _ t in
    let made : c.combine.new.out.entries ≡ f (entries_of c.view.result) =
    ap (λ (r : RowValue). r.entries) c.combine.ensures in
    let e : y ≡ f (row C.rows k) = c.view-in-loop-c.ensures.entries ∙ made
    ∙ ap f (c.view.ensures.entries ∙ t.entries) in
    record {
      left = u.1;
      prime = ap (λ (r : RowValue). r.p) c.combine.ensures ∙ I.prime;
      length_is = ap length made
          ∙ length-combination_row R.p R.width (entry (entries_of c.view.result)) R.rows
          ∙ sym c.requires.same_width;
      pushed = c.in_ok-push.ensures.pushed
          ∙ ap (λ (m : MatrixValue). record m { rows = m.rows ++ y ∷ [] }) I.pushed
          ∙ ap (λ (rs : List (List ℕ)). record M { rows = rs })
          (pushed-image M.rows f C.rows k y t.inside e ∙ ap (λ i. M.rows ++ map f (take i C.rows)) (sym u.0));
    }

pub returns : goal.returns
returns c =
    let M : MatrixValue = c.args.m.now in
    let C : MatrixValue = c.args.coefficients.now in
    let R : MatrixValue = c.args.rows.now in
    let f : List ℕ → List ℕ = λ u. combination_row R.p R.width (entry u) R.rows in
    c.loop-c.invariant.pushed
    ∙ ap (λ (rs : List (List ℕ)). record M { rows = M.rows ++ map f rs })
    (ap (λ i. take i C.rows) (row-end C _ _ c.loop-c.invariant.left c.in-None.ensures.steps.0)
    ∙ take-length C.rows)

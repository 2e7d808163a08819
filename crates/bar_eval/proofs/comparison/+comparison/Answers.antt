use Rattle.std.proofs.Common.{◌≡◌, ℕ, suc, [], List, IfOk, length, replicate, get_or, false, ◌+◌, ◌-◌, arith}
use Rattle.std.proofs.Common.{ap, sym, ◌∙◌, refl}
use mathlib.Core.Path.{subst}
use Rattle.std.proofs.lemmas.Bool.{eqb-true}
use Rattle.linear_algebra.specs.Rows.{add_multiple}
use Rattle.fp_rows.specs.Refs.{entries_of}
use Rattle.fp_rows.specs.Values.{MatrixValue, RowValue}
use Rattle.p_groups.specs.PGroups.{group, prime_of}
use Rattle.group_modules.specs.Tables.{monoid}
use Rattle.group_algebra.specs.Coordinates.{row_of}
use Rattle.min_res.specs.Stages.{rank_of}
use Rattle.min_res.specs.Values.{StageValue}
use Rattle.min_res.specs.Defined.{InK, σ}
use Rattle.bar_complex.specs.Boundary.{signed}
use Rattle.bar_complex.specs.Faces.{alternate, face as face_of}
use Rattle.subgroup_list.proofs.Bools.{no_items}
use Rattle.bar_eval.specs.Comparison.{compared_row, tuple_of}
use Rattle.bar_eval.proofs.FaceSums.{all-faces, up-to}
use Rattle.bar_eval.proofs.ComparisonRows.{after-one, boundary-in, section-there, zero-there, first-face}
use Rattle.bar_eval.proofs.ComparisonRows.{next-face, row-length}
use Rattle.bar_eval.proofs.comparison.+comparison.Goals as goal

pub compared-returns-then-is_empty-clause-value : goal.compared-returns-then-is_empty-clause-value
compared-returns-then-is_empty-clause-value t c =
    subst (λ xs. IfOk c.one.result (λ r. r.entries ≡ compared_row c.args.res.now.group (length xs) xs))
    (sym (no_items c.args.tuple.now c.if-is_empty.ensures))
    (subst (λ G. IfOk c.one.result (λ r. r.entries ≡ compared_row G 0 [])) c.algebra.ensures
    c.one.ensures.value)

pub compared-returns-then-contains-clause-value : goal.compared-returns-then-contains-clause-value
compared-returns-then-contains-clause-value t c =
    let (k, l, h) = c.if-contains.ensures.cases in
    ap (λ (r : RowValue). r.entries) c.in_ok-lifted.ensures
    ∙ ap (λ n. replicate n 0) (c.width.ensures ∙ ap (λ (m : MatrixValue). m.width) (c.kernel.ensures
    ∙ ap (λ (s : StageValue). s.kernel) c.deref.ensures ∙ c.stage_at.ensures.stage.kernel_is))
    ∙ sym (zero-there c.args.res.now.group (length c.args.tuple.now) c.args.tuple.now refl
    (k, l, eqb-true (get_or c.args.tuple.now k 0) 0 (h 0)))

pub compared-section-requires-clause-member : goal.compared-section-requires-clause-member
compared-section-requires-clause-member t c =
    let some : length c.args.tuple.now ≡ suc (length c.args.tuple.now - 1) =
    after-one c.args.tuple.now c.if-is_empty.ensures in
    subst (InK c.args.res.now.group (length c.args.tuple.now - 1)) (sym (c.view.ensures.entries
    ∙ c.in_ok-boundary.ensures.value (length c.args.tuple.now - 1) some))
    (boundary-in c.args.res.now.group (length c.args.tuple.now - 1) c.args.tuple.now)

pub compared-returns-clause-value : goal.compared-returns-clause-value
compared-returns-clause-value t c =
    let some : length c.args.tuple.now ≡ suc (length c.args.tuple.now - 1) =
    after-one c.args.tuple.now c.if-is_empty.ensures in
    c.section.ensures.value
    ∙ ap (σ c.args.res.now.group (length c.args.tuple.now - 1)) (c.view.ensures.entries
    ∙ c.in_ok-boundary.ensures.value (length c.args.tuple.now - 1) some)
    ∙ sym (section-there c.args.res.now.group (length c.args.tuple.now - 1) c.args.tuple.now)
    ∙ ap (λ d. compared_row c.args.res.now.group d c.args.tuple.now) (sym some)

pub compared_boundary-loop-i-init : goal.compared_boundary-loop-i-init
compared_boundary-loop-i-init t c = record {
  prime = c.act.ensures.prime ∙ ap (λ (r : RowValue). r.p) c.in_ok-sum.ensures ∙ c.prime-prime.ensures
      ∙ ap prime_of (c.group.ensures ∙ c.algebra-algebra.ensures);
  gathered = λ d e. first-face c.algebra-algebra.result.now c.args.res.now.group c.algebra-algebra.ensures d
      c.rank.result _ c.args.tuple.now _ _ _
      (c.rank.ensures ∙ ap (λ (s : StageValue). s.rank) c.deref-2.ensures
      ∙ c.stage_at-before.ensures.stage.rank_is
      ∙ ap (rank_of c.args.res.now.group) (let z : length c.args.tuple.now - 1 ≡ d = omega (arith, e) in z))
      e c.requires.elements refl refl (c.view.ensures.entries ∙ c.in_ok-rest.ensures.value)
      c.act.ensures.moved;
}

pub compared_boundary-add-requires-clause-same_length :
    goal.compared_boundary-add-requires-clause-same_length
compared_boundary-add-requires-clause-same_length t c =
    let d : ℕ = length c.args.tuple.now - 1 in
    let some : length c.args.tuple.now ≡ suc d = omega (arith, c.requires.some) in
    row-length c.args.res.now.group (length c.in_ok-face.face.items) d (entries_of c.view-in-loop-i.result)
    c.loop-i.sum.entries _ _
    (let n : length c.in_ok-face.face.items + 1 ≡ length c.args.tuple.now = c.in_ok-face.ensures.length in
    omega (arith, n)) (c.view-in-loop-i.ensures.entries ∙ c.in_ok-value.ensures.value
    ∙ ap (λ (ys : List ℕ). compared_row c.args.res.now.group (length ys) ys) c.deref-in-loop-i.ensures.value)
    (c.loop-i.invariant.gathered d some)

pub compared_boundary-loop-i-preserved : goal.compared_boundary-loop-i-preserved
compared_boundary-loop-i-preserved t c = record {
  prime = ap (λ (r : RowValue). r.p) c.add.ensures ∙ c.loop-i.invariant.prime;
  gathered = λ d e. next-face c.args.res.now.group d c.loop-i.i c.sign.result c.args.tuple.now
      c.loop-i.sum.entries (entries_of c.view-in-loop-i.result) c.add.new.self.entries c.in_ok-face.face.items
      (c.loop-i.invariant.gathered d e)
      (c.sign.ensures.value ∙ ap (λ p. signed (p - 1) (alternate false c.loop-i.i)) (c.prime-prime.ensures
      ∙ ap prime_of (c.group.ensures ∙ c.algebra-algebra.ensures)))
      (c.view-in-loop-i.ensures.entries ∙ c.in_ok-value.ensures.value
      ∙ ap (λ (ys : List ℕ). compared_row c.args.res.now.group (length ys) ys)
      c.deref-in-loop-i.ensures.value)
      (let n : length c.in_ok-face.face.items + 1 ≡ length c.args.tuple.now = c.in_ok-face.ensures.length in
      omega (arith, n, e))
      (subst (λ G. tuple_of G d c.in_ok-face.face.items
      ≡ face_of (monoid (group G)) d c.loop-i.i (tuple_of G (suc d) c.args.tuple.now))
      (c.group-in-loop-i.ensures ∙ c.algebra-algebra.ensures) (c.in_ok-face.ensures.face d e))
      (ap (λ (r : RowValue). r.entries) c.add.ensures
      ∙ ap (λ p. add_multiple p c.sign.result c.loop-i.sum.entries (entries_of c.view-in-loop-i.result))
      c.loop-i.invariant.prime);
}

pub compared_boundary-returns-clause-value : goal.compared_boundary-returns-clause-value
compared_boundary-returns-clause-value t c d e =
    c.loop-i.invariant.gathered d e
    ∙ ap (λ k. row_of c.args.res.now.group (rank_of c.args.res.now.group d)
    (up-to c.args.res.now.group d (tuple_of c.args.res.now.group (suc d) c.args.tuple.now) k))
    (let z : c.loop-i.i ≡ length c.args.tuple.now = omega (arith, c.loop-i-test.false, c.loop-i.auto) in
    z ∙ e)
    ∙ ap (row_of c.args.res.now.group (rank_of c.args.res.now.group d))
    (all-faces c.args.res.now.group d (tuple_of c.args.res.now.group (suc d) c.args.tuple.now))

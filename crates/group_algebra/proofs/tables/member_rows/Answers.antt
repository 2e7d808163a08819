use Rattle.std.proofs.Common.{◌≡◌, ◌<◌, ◌+◌, ℕ, length, arith, ap, sym, ◌∙◌}
use Rattle.std.proofs.lemmas.List.{length_push}
use mathlib.Core.Path.{subst}
use Rattle.group_table.specs.Tables.{order}
use Rattle.linear_algebra.specs.Rows.{row}
use Rattle.fp_rows.specs.Refs.{entries_of}
use Rattle.fp_rows.specs.Values.{MatrixValue}
use Rattle.fp_rows.proofs.Turns.{AreLeft, IsRowTurn, row-turn, row-end, turn-width}
use Rattle.group_algebra.specs.Coefficients.{AreSumCoordinates}
use Rattle.group_algebra.specs.Coordinates.{sum_coordinates, AreCoefficients}
use Rattle.group_algebra.specs.Tables.{HasShape}
use Rattle.group_algebra.proofs.Members.{coefficients-of}
use Rattle.group_algebra.proofs.TableLemmas.{each-pushed, shape-pushed}
use Rattle.group_algebra.proofs.tables.member_rows.Goals as goal

pub write_coefficients-requires-clause-same_length : goal.write_coefficients-requires-clause-same_length
write_coefficients-requires-clause-same_length c =
    let t : IsRowTurn c.args.basis.now (length c.loop-row.m.rows) c.in-Some.row.now c.next.new.self =
    row-turn _ _ _ c.loop-row.row-iterator _ c.loop-row.invariant.left c.in-Some.ensures.steps in
    c.loop-row.invariant.length_is ∙ sym (ap length c.view.ensures.entries
    ∙ turn-width c.into_iter-row-iterator.ensures.into_iter_gives.matrix t ∙ c.requires.basis.width)

pub write_coefficients-requires-clause-some : goal.write_coefficients-requires-clause-some
write_coefficients-requires-clause-some c =
    let t : IsRowTurn c.args.basis.now (length c.loop-row.m.rows) c.in-Some.row.now c.next.new.self =
    row-turn _ _ _ c.loop-row.row-iterator _ c.loop-row.invariant.left c.in-Some.ensures.steps in
    subst (λ n. 0 < n) (sym (ap length c.view.ensures.entries
    ∙ turn-width c.into_iter-row-iterator.ensures.into_iter_gives.matrix t
    ∙ c.requires.basis.width)) c.args.group.now.law.law.some

pub push-requires-clause-same_width : goal.push-requires-clause-same_width
push-requires-clause-same_width c =
    let t : IsRowTurn c.args.basis.now (length c.loop-row.m.rows) c.in-Some.row.now c.next.new.self =
    row-turn _ _ _ c.loop-row.row-iterator _ c.loop-row.invariant.left c.in-Some.ensures.steps in
    ap length c.view-in-loop-row.ensures.entries
    ∙ c.write_coefficients.ensures.coefficients.coefficients.length_is
    ∙ ap length c.view.ensures.entries ∙ turn-width c.into_iter-row-iterator.ensures.into_iter_gives.matrix t
    ∙ c.requires.basis.width ∙ sym c.loop-row.invariant.shape.width

pub loop-row-preserved : goal.loop-row-preserved
loop-row-preserved c =
    let n : ℕ = order c.args.group.now.table in
    let k : ℕ = length c.loop-row.m.rows in
    let I = c.loop-row.invariant in
    let t : IsRowTurn c.args.basis.now k c.in-Some.row.now c.next.new.self =
    row-turn _ _ _ c.loop-row.row-iterator _ I.left c.in-Some.ensures.steps in
    let e : entries_of c.view.result ≡ row c.args.basis.now.rows k = c.view.ensures.entries ∙ t.entries in
    let len : length (entries_of c.view.result) ≡ n =
    ap length c.view.ensures.entries ∙ turn-width c.into_iter-row-iterator.ensures.into_iter_gives.matrix t
    ∙ c.requires.basis.width in
    let S : AreSumCoordinates c.args.group.now.table.p n c.write_coefficients.new.out.entries
    (row c.args.basis.now.rows k) =
    rw (I.is_prime, len, e) at c.write_coefficients.ensures.coefficients in
    let count : length c.push.new.self.rows ≡ k + 1 =
    ap (λ (m : MatrixValue). length m.rows) c.in_ok-push.ensures.pushed
    ∙ length_push c.loop-row.m.rows (entries_of c.view-in-loop-row.result) in
    record {
      is_prime = I.is_prime;
      left = subst (λ i. AreLeft c.args.basis.now i c.next.new.self) (sym count) t.left;
      shape = subst (λ i. HasShape c.args.group.now i c.push.new.self) (sym count)
          (shape-pushed c.args.group.now k c.loop-row.m c.push.new.self
          (entries_of c.view-in-loop-row.result) I.shape c.in_ok-push.ensures.pushed);
      prime = c.write_coefficients.ensures.prime ∙ I.prime;
      length_is = S.coefficients.length_is;
      rows = rw c.in_ok-push.ensures.pushed
          (each-pushed (λ i x. AreSumCoordinates c.args.group.now.table.p n x (row c.args.basis.now.rows i))
          c.loop-row.m.rows (entries_of c.view-in-loop-row.result) I.rows
          (rw c.view-in-loop-row.ensures.entries S));
    }

pub returns-clause-members : goal.returns-clause-members
returns-clause-members c k l =
    let I = c.loop-row.invariant in
    let all : length c.loop-row.m.rows ≡ length c.args.basis.now.rows =
    row-end c.args.basis.now _ _ I.left c.in-None.ensures.steps.0 in
    let m : k < length c.loop-row.m.rows = omega (arith, l, all, c.requires.basis.rows) in
    subst (λ rows. AreCoefficients c.args.group.now (row c.loop-row.m.rows k)
    ((sum_coordinates c.args.group.now).table (row rows k)))
    c.requires.rows (coefficients-of c.args.group.now (row c.loop-row.m.rows k) (row c.args.basis.now.rows k)
    (I.rows k m))

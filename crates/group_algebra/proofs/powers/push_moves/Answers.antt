use Rattle.std.proofs.Common.{◌≡◌, ◌<◌, ◌++◌, ◌+◌, ◌∷◌, [], ℕ, List, length, map, take, ap, sym, ◌∙◌, refl}
use Rattle.std.proofs.lemmas.List.{length-replicate, append-nil}
use Rattle.std.proofs.Math.Seq.{take-length}
use mathlib.Core.Path.{subst}
use Rattle.group_table.specs.Tables.{order}
use Rattle.linear_algebra.specs.Rows.{row}
use Rattle.radical_layers.specs.Moves.{move_row}
use Rattle.fp_rows.specs.Refs.{entries_of}
use Rattle.fp_rows.specs.Values.{RowValue, MatrixValue}
use Rattle.fp_rows.proofs.Turns.{AreLeft, IsRowTurn, passed, passed-start, passed-turn, row-turn, row-end}
use Rattle.fp_rows.proofs.Turns.{turn-width}
use Rattle.p_groups.specs.PGroups.{PGroup, group as group_of}
use Rattle.group_algebra.specs.Coordinates.{free_module, sum_coordinates, AreCoefficients}
use Rattle.group_algebra.specs.Coefficients.{AreSumCoordinates}
use Rattle.group_algebra.proofs.ListLemmas.{pushed-image}
use Rattle.group_algebra.proofs.Members.{coefficients-of}
use Rattle.group_algebra.proofs.powers.push_moves.Goals as goal

pub loop-row-init : goal.loop-row-init
loop-row-init c =
    let G : PGroup = c.args.group.now in
    let M : MatrixValue = c.args.m.now in
    let E : MatrixValue = c.args.list.now in
    let s : (passed E c.into_iter-row-iterator.result ≡ 0)
    × AreLeft E (passed E c.into_iter-row-iterator.result) c.into_iter-row-iterator.result =
    passed-start E _ c.into_iter-row-iterator.ensures.into_iter_gives in
    record {
      is_prime = c.prime-p.ensures;
      left = s.1;
      primes = (
        ap (λ (r : RowValue). r.p) c.in_ok-a.ensures ∙ c.prime-p.ensures,
        ap (λ (r : RowValue). r.p) c.in_ok-moved.ensures ∙ c.prime-p.ensures,
        ap (λ (r : RowValue). r.p) c.in_ok-out.ensures ∙ c.prime-p.ensures,
      );
      lengths = (
        ap (λ (r : RowValue). length r.entries) c.in_ok-a.ensures ∙ length-replicate c.order-n.result 0
            ∙ c.order-n.ensures.value,
        ap (λ (r : RowValue). length r.entries) c.in_ok-moved.ensures ∙ length-replicate c.order-n.result 0
            ∙ c.order-n.ensures.value,
        ap (λ (r : RowValue). length r.entries) c.in_ok-out.ensures ∙ length-replicate c.order-n.result 0
            ∙ c.order-n.ensures.value,
      );
      kept = (refl, refl);
      moves = λ b. sym (ap (λ k. M.rows ++ map
          (move_row (group_of G) (free_module G 1) (sum_coordinates G) (c.args.g, b)) (take k E.rows)) s.0
          ∙ append-nil M.rows);
    }

pub write_coefficients-requires-clause-same_length : goal.write_coefficients-requires-clause-same_length
write_coefficients-requires-clause-same_length c =
    let t : IsRowTurn c.args.list.now (passed c.args.list.now c.loop-row.row-iterator) c.in-Some.row.now
    c.next.new.self =
    row-turn _ _ _ c.loop-row.row-iterator _ c.loop-row.invariant.left c.in-Some.ensures.steps in
    c.loop-row.invariant.lengths.0 ∙ sym (ap length c.view.ensures.entries
    ∙ turn-width c.into_iter-row-iterator.ensures.into_iter_gives.matrix t ∙ c.requires.same_width.0)

pub write_coefficients-requires-clause-some : goal.write_coefficients-requires-clause-some
write_coefficients-requires-clause-some c =
    let t : IsRowTurn c.args.list.now (passed c.args.list.now c.loop-row.row-iterator) c.in-Some.row.now
    c.next.new.self =
    row-turn _ _ _ c.loop-row.row-iterator _ c.loop-row.invariant.left c.in-Some.ensures.steps in
    subst (λ n. 0 < n) (sym (ap length c.view.ensures.entries
    ∙ turn-width c.into_iter-row-iterator.ensures.into_iter_gives.matrix t
    ∙ c.requires.same_width.0)) c.args.group.now.law.law.some

pub write_move-requires-clause-length : goal.write_move-requires-clause-length
write_move-requires-clause-length c =
    let t : IsRowTurn c.args.list.now (passed c.args.list.now c.loop-row.row-iterator) c.in-Some.row.now
    c.next.new.self =
    row-turn _ _ _ c.loop-row.row-iterator _ c.loop-row.invariant.left c.in-Some.ensures.steps in
    ap length c.view-in-loop-row.ensures.entries
    ∙ c.write_coefficients.ensures.coefficients.coefficients.length_is
    ∙ ap length c.view.ensures.entries ∙ turn-width c.into_iter-row-iterator.ensures.into_iter_gives.matrix t
    ∙ c.requires.same_width.0

pub loop-row-preserved : goal.loop-row-preserved
loop-row-preserved c =
    let G : PGroup = c.args.group.now in
    let n : ℕ = order G.table in
    let M : MatrixValue = c.args.m.now in
    let E : MatrixValue = c.args.list.now in
    let k : ℕ = passed E c.loop-row.row-iterator in
    let I = c.loop-row.invariant in
    let y : List ℕ = entries_of c.view-in-loop-row-2.result in
    let t : IsRowTurn E k c.in-Some.row.now c.next.new.self =
    row-turn _ _ _ c.loop-row.row-iterator _ I.left c.in-Some.ensures.steps in
    let u : (passed E c.next.new.self ≡ k + 1) × AreLeft E (passed E c.next.new.self) c.next.new.self =
    passed-turn E k _ _ t in
    let len : length (entries_of c.view.result) ≡ n =
    ap length c.view.ensures.entries ∙ turn-width c.into_iter-row-iterator.ensures.into_iter_gives.matrix t
    ∙ c.requires.same_width.0 in
    let S : AreSumCoordinates G.table.p n c.write_coefficients.new.out.entries (row E.rows k) =
    rw (I.is_prime, len, c.view.ensures.entries, t.entries) at c.write_coefficients.ensures.coefficients in
    record {
      is_prime = I.is_prime;
      left = u.1;
      primes = (
        c.write_coefficients.ensures.prime ∙ I.primes.0,
        c.write_move.ensures.primes.0 ∙ I.primes.1,
        c.write_move.ensures.primes.1 ∙ I.primes.2,
      );
      lengths = (S.coefficients.length_is, c.write_move.ensures.lengths.0, c.write_move.ensures.lengths.1);
      kept = (
        ap (λ (m : MatrixValue). m.p) c.in_ok-push.ensures.pushed ∙ I.kept.0,
        ap (λ (m : MatrixValue). m.width) c.in_ok-push.ensures.pushed ∙ I.kept.1,
      );
      moves = λ b.
          let C : AreCoefficients G (entries_of c.view-in-loop-row.result)
          ((sum_coordinates G).table (row E.rows k)) =
          rw c.view-in-loop-row.ensures.entries
          (coefficients-of G c.write_coefficients.new.out.entries (row E.rows k) S) in
          ap (λ (m : MatrixValue). m.rows) c.in_ok-push.ensures.pushed
          ∙ ap (λ (rows : List (List ℕ)). rows ++ y ∷ []) (I.moves b)
          ∙ pushed-image M.rows (move_row (group_of G) (free_module G 1) (sum_coordinates G) (
            c.args.g,
            b,
          )) E.rows k y t.inside
          (c.view-in-loop-row-2.ensures.entries
          ∙ c.write_move.ensures.difference b ((sum_coordinates G).table (row E.rows k)) C)
          ∙ ap (λ i. M.rows ++ map (move_row (group_of G) (free_module G 1) (sum_coordinates G) (c.args.g, b))
          (take i E.rows)) (sym u.0);
    }

pub returns-clause-moves : goal.returns-clause-moves
returns-clause-moves c b =
    let G : PGroup = c.args.group.now in
    let E : MatrixValue = c.args.list.now in
    c.loop-row.invariant.moves b
    ∙ ap (λ (rows : List (List ℕ)). c.args.m.now.rows ++ map
    (move_row (group_of G) (free_module G 1) (sum_coordinates G) (c.args.g, b)) rows)
    (ap (λ i. take i E.rows) (row-end E _ _ c.loop-row.invariant.left c.in-None.ensures.steps.0)
    ∙ take-length E.rows)
